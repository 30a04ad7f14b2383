-- What is answered to a text, and what is printed of it. Assumes nothing.
use Rattle.std.specs.Prelude.{ℕ, cond, List, length, Ok, Err, Result, nat_lt}
use Rattle.refusal.specs.declared.Fault.{Fault}
use Rattle.refusal.specs.declared.Refusal.TheVariants.{Memory}
use Rattle.refusal.specs.Table.{fault}
use Rattle.heap.specs.Heap.{Heap}
use Rattle.listing.specs.declared.settings.Settings.{Settings}
use Rattle.listing.specs.Judge.{judge}
use Rattle.sheet.specs.declared.texts.Sheet.{Sheet}
use Rattle.sheet.specs.declared.judge.JudgeError.{JudgeError}
use Rattle.sheet.specs.declared.judge.JudgeError.TheVariants.{Refused}
use Rattle.sheet.specs.Texts.{fault_text, sheet_text, error_text, sheet_lines, sheet_of}

-- what is printed of a text that is judged so
abbrev pub printed : Result (Heap × Settings) Fault → List ℕ
printed (Ok x) = sheet_text x.0 x.1
printed (Err f) = fault_text f

-- no listing that is right has more bytes
abbrev pub longest : ℕ
longest = 2962630

-- what a text means, where one longer than any listing is refused for want of memory, with line 0
abbrev pub judged_up_to : List ℕ → Result (Heap × Settings) Fault
judged_up_to text = cond (nat_lt longest (length text)) (Err (fault Memory 0)) (judge text)

-- the answer to a text that is judged so: a sheet, or a refusal
abbrev pub answer_to : Result (Heap × Settings) Fault → Result Sheet JudgeError
answer_to (Ok x) = Ok (sheet_of x.0 x.1)
answer_to (Err f) = Err (Refused f)

-- the bytes that an answer prints as
abbrev pub shown : Result Sheet JudgeError → List ℕ
shown (Ok sheet) = sheet_lines sheet
shown (Err error) = error_text error
