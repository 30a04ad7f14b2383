-- Pieces with separators between them, cut again, and what was cut, put together again.
use Rattle.std.proofs.Common.{◌≡◌, ℕ, ◌<◌, Bool, true, false, cond, not, ◌&&◌, eqb, List, [], ◌∷◌, ◌++◌, sym, refl, ap, ◌∙◌, append_assoc, arith}
use Rattle.std.specs.List.{flat_map, AllByRecursion}
use Rattle.std.specs.Str.{all_ascii_digits}
use Rattle.std.specs.Char.{is_ascii_digit}
use Rattle.std.proofs.lemmas.Bool.{eqb-true, eq-eqb, and_parts, and_from, not-true}
use Rattle.std.proofs.lemmas.Bool.Decides.{nat_tests}
use Rattle.listing.specs.Pieces.{pieces, on_first, lines_of, past, up_to}
use Rattle.listing.specs.Written.{separated}
use Rattle.listing.proofs.Cuts.{pieces_step, pieces_of}

-- put together again

separated_first : (sep b : ℕ) (p : List ℕ) (ps : List (List ℕ)) → separated sep ((b ∷ p) ∷ ps) ≡ b ∷ separated sep (p ∷ ps)
separated_first sep b p [] = refl
separated_first sep b p (q ∷ ps) = refl

separated_on : (sep b : ℕ) (xs : List ℕ) → separated sep (on_first b (pieces sep xs)) ≡ b ∷ separated sep (pieces sep xs)
separated_on sep b xs = rw (pieces_step sep xs) (separated_first sep b (up_to sep xs) (pieces_of sep (past sep xs)))

separated_empty : (sep : ℕ) (xs : List ℕ) → separated sep ([] ∷ pieces sep xs) ≡ sep ∷ separated sep (pieces sep xs)
separated_empty sep xs = rw (pieces_step sep xs)

pub separated_pieces : (sep : ℕ) (xs : List ℕ) → separated sep (pieces sep xs) ≡ xs
separated_pieces sep [] = refl
separated_pieces sep (b ∷ bs) = split (eqb b sep) refl (separated_pieces sep bs)
  where
    split : (t : Bool) → eqb b sep ≡ t → separated sep (pieces sep bs) ≡ bs → separated sep (cond t ([] ∷ pieces sep bs) (on_first b (pieces sep bs))) ≡ b ∷ bs
    split true q e = let a : b ≡ sep = eqb-true b sep q in let c = separated_empty sep bs in cc
    split false q e = separated_on sep b bs ∙ ap (λ ys. b ∷ ys) e

-- cut again

-- the byte is not in the text
abbrev pub lacks : ℕ → List ℕ → Bool
lacks sep [] = true
lacks sep (b ∷ bs) = not (eqb b sep) && lacks sep bs

pub lacks_append : (sep : ℕ) (xs ys : List ℕ) → lacks sep xs ≡ true → lacks sep ys ≡ true → lacks sep (xs ++ ys) ≡ true
lacks_append sep [] ys a b = b
lacks_append sep (x ∷ xs) ys a b =
    let p = and_parts (not (eqb x sep)) (lacks sep xs) a in
    and_from (not (eqb x sep)) (lacks sep (xs ++ ys)) p.0 (lacks_append sep xs ys p.1 b)

pub lacks_separated : (sep other : ℕ) (ps : List (List ℕ)) → not (eqb other sep) ≡ true → AllByRecursion (λ p. lacks sep p ≡ true) ps → lacks sep (separated other ps) ≡ true
lacks_separated sep other [] n a = refl
lacks_separated sep other (p ∷ []) n a = a.0
lacks_separated sep other (p ∷ q ∷ ps) n a =
    lacks_append sep p (other ∷ separated other (q ∷ ps)) a.0
    (and_from (not (eqb other sep)) (lacks sep (separated other (q ∷ ps))) n (lacks_separated sep other (q ∷ ps) n a.1))

pub lacks_digits : (sep : ℕ) (ds : List ℕ) → sep < 48 → all_ascii_digits ds ≡ true → lacks sep ds ≡ true
lacks_digits sep [] l d = refl
lacks_digits sep (b ∷ bs) l d =
    let p = and_parts (is_ascii_digit b) (all_ascii_digits bs) d in
    let q = p.0 in
    let a : not (eqb b sep) ≡ true = grind (arith, nat_tests) in
    and_from (not (eqb b sep)) (lacks sep bs) a (lacks_digits sep bs l p.1)

pub pieces_alone : (sep : ℕ) (p : List ℕ) → lacks sep p ≡ true → pieces sep p ≡ p ∷ []
pieces_alone sep [] a = refl
pieces_alone sep (b ∷ bs) a =
    let p = and_parts (not (eqb b sep)) (lacks sep bs) a in
    let q = not-true (eqb b sep) p.0 in
    rw q (ap (on_first b) (pieces_alone sep bs p.1))

pub pieces_cut : (sep : ℕ) (p rest : List ℕ) → lacks sep p ≡ true → pieces sep (p ++ sep ∷ rest) ≡ p ∷ pieces sep rest
pieces_cut sep [] rest a = let q = eq-eqb sep sep refl in rw q
pieces_cut sep (b ∷ bs) rest a =
    let p = and_parts (not (eqb b sep)) (lacks sep bs) a in
    let q = not-true (eqb b sep) p.0 in
    rw q (ap (on_first b) (pieces_cut sep bs rest p.1))

pub pieces_separated : (sep : ℕ) (p : List ℕ) (ps : List (List ℕ)) → AllByRecursion (λ q. lacks sep q ≡ true) (p ∷ ps) → pieces sep (separated sep (p ∷ ps)) ≡ p ∷ ps
pieces_separated sep p [] a = pieces_alone sep p a.0
pieces_separated sep p (q ∷ ps) a = pieces_cut sep p (separated sep (q ∷ ps)) a.0 ∙ ap (λ xs. p ∷ xs) (pieces_separated sep q ps a.1)

-- lines

-- each closed by byte 10
abbrev pub closed : List (List ℕ) → List ℕ
closed ls = flat_map (λ l. l ++ 10 ∷ []) ls

pub lines_closed : (ls : List (List ℕ)) → AllByRecursion (λ l. lacks 10 l ≡ true) ls → lines_of (closed ls) ≡ ls ++ [] ∷ []
lines_closed [] a = refl
lines_closed (l ∷ ls) a =
    ap lines_of (append_assoc l (10 ∷ []) (closed ls)) ∙ pieces_cut 10 l (closed ls) a.0 ∙ ap (λ xs. l ∷ xs) (lines_closed ls a.1)

separated_more : (sep : ℕ) (p : List ℕ) (ls : List (List ℕ)) (q : List ℕ) → separated sep (p ∷ (ls ++ q ∷ [])) ≡ p ++ sep ∷ separated sep (ls ++ q ∷ [])
separated_more sep p [] q = refl
separated_more sep p (l ∷ ls) q = refl

separated_closed : (ls : List (List ℕ)) → separated 10 (ls ++ [] ∷ []) ≡ closed ls
separated_closed [] = refl
separated_closed (l ∷ ls) =
    separated_more 10 l ls [] ∙ ap (λ xs. l ++ 10 ∷ xs) (separated_closed ls) ∙ sym (append_assoc l (10 ∷ []) (closed ls))

-- a text is its lines, closed
pub text_closed : (text : List ℕ) (ls : List (List ℕ)) → lines_of text ≡ ls ++ [] ∷ [] → text ≡ closed ls
text_closed text ls e = sym (separated_pieces 10 text) ∙ ap (separated 10) e ∙ separated_closed ls
