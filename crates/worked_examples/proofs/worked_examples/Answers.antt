use Rattle.std.proofs.Common.{refl, rules}
use Rattle.worked_examples.proofs.worked_examples.Goals as goal

pub returns : goal.returns
returns c =
    record {
      number = search rules;
      as_it_stands = refl;
      last_ends_with_the_heap = refl;
      last_ends_past_the_heap = refl;
      second_starts_at_the_end = refl;
      second_starts_before_the_end = refl;
      reference_to_no_object = refl;
      no_markers = refl;
      seventeen_markers = refl;
      sixteen_markers = refl;
      leading_zero = refl;
      sixty_four_sections = refl;
      sixty_five_sections = refl;
      empty_text = refl;
      missing_line = refl;
    }
