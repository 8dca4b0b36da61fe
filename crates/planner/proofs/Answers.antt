-- Refusals in the order of their places, and what planning says from what its stages hand on. Assumes nothing.
use mathlib.Core.Path.{◌≡◌, refl, ◌∙◌}
use mathlib.Core.Bool.{true, false}
use mathlib.Core.Logic.{◌≢◌}
use mathlib.Core.List.{List}
use Prim.Native.Nat.{ℕ}
use lib.ListN.{length}
use Rattle.std.specs.Prelude.{Ok, Err}
use Rattle.rack.specs.Refused.{refusal_of}
use Rattle.rack.specs.declared.refused.Refused.{Refused}
use Rattle.rack.specs.Wiring.{Wiring}
use Rattle.rack.specs.Hops.{connected}
use Rattle.rack.specs.Columns.{column_count, address, Embedding, embeds}
use Rattle.rack.specs.Refusals.{Refusal, refusal, or_else, links_refusal, reach_refusal, parity_refusal, embedding_refusal, rack_refusal}
use Rattle.rack.specs.WiringFile.{file_wiring, sizes_fault, form_refusal, file_refusal}
use Rattle.rack.proofs.Logic.{by_bool}
use Rattle.rack.proofs.Refusals.{or_else_first, or_else_second, embeds_embedding, embedding_embeds}
use Rattle.rack.proofs.Acceptance.{connected_refusal}
use Rattle.survey.specs.Tables.{HopsIn}
use Rattle.rack.proofs.RefusalNumbers.{refusal_numbered}
use Rattle.planner.specs.Stages.{Addressed, PlannedAs}
use Rattle.rack.specs.Limits.{lent_words, lent_hops}
use Rattle.planner.specs.Answer.{answer_of}

-- A FILE's refusal is its sizes', its links' or its rack's
module _ (bs : List ℕ) where
  abbrev w : Wiring
  w = file_wiring bs

  pub refusal_of_sizes : sizes_fault bs ≢ 0 → file_refusal bs ≡ refusal (sizes_fault bs) 0
  unfolding file_refusal form_refusal
  refusal_of_sizes n = rw (or_else_first (refusal (sizes_fault bs) 0) (links_refusal w) n) (or_else_first (refusal (sizes_fault bs) 0) (rack_refusal w) n)

  pub refusal_of_links : sizes_fault bs ≡ 0 → (links_refusal w).number ≢ 0 → file_refusal bs ≡ links_refusal w
  unfolding file_refusal form_refusal
  refusal_of_links z n = rw (or_else_second (refusal (sizes_fault bs) 0) (links_refusal w) z) (or_else_first (links_refusal w) (rack_refusal w) n)

  pub refusal_of_rack : sizes_fault bs ≡ 0 → (links_refusal w).number ≡ 0 → file_refusal bs ≡ rack_refusal w
  unfolding file_refusal form_refusal
  refusal_of_rack z l = rw (or_else_second (refusal (sizes_fault bs) 0) (links_refusal w) z) (or_else_second (links_refusal w) (rack_refusal w) l)

-- A RACK's is that of 9, of 10 or of 11
module _ (w : Wiring) where
  pub refusal_of_reach : (reach_refusal w).number ≢ 0 → rack_refusal w ≡ reach_refusal w
  unfolding rack_refusal
  refusal_of_reach n = or_else_first (reach_refusal w) (or_else (parity_refusal w) (embedding_refusal w)) n

  pub refusal_of_parity : connected w ≡ true → (parity_refusal w).number ≢ 0 → rack_refusal w ≡ parity_refusal w
  refusal_of_parity c n = connected_refusal w c ∙ or_else_first (parity_refusal w) (embedding_refusal w) n

  pub refusal_of_none : connected w ≡ true → (parity_refusal w).number ≡ 0 → (Embedding w (column_count w) (address w) → ⊥) → rack_refusal w ≡ refusal 11 0
  unfolding embedding_refusal
  refusal_of_none c z n =
      connected_refusal w c ∙ or_else_second (parity_refusal w) (embedding_refusal w) z
      ∙ by_bool (embeds w (column_count w) (address w))
      (λ (e : embeds w (column_count w) (address w) ≡ true). absurd (n (embeds_embedding w (column_count w) (address w) e)))
      (λ (e : embeds w (column_count w) (address w) ≡ false). rw e refl)

  pub refusal_of_embedding : connected w ≡ true → (parity_refusal w).number ≡ 0 → Embedding w (column_count w) (address w) → rack_refusal w ≡ refusal 0 0
  unfolding embedding_refusal
  refusal_of_embedding c z m =
      connected_refusal w c ∙ or_else_second (parity_refusal w) (embedding_refusal w) z
      ∙ rw (embedding_embeds w (column_count w) (address w) m) refl

-- THE STAGES' answers
module _ (f : Refusal) (w : Wiring) (ws h : List ℕ) where
  pub planned_refused : (e : Refused) → f ≡ refusal_of e → length ws ≡ lent_words → length h ≡ lent_hops → PlannedAs f w (answer_of (Err e)) ws h
  planned_refused e is lw lh =
      record {
        number = rw is refl;
        at = rw is refl;
        value = λ z. absurd (refusal_numbered e z);
        no_value = λ z. refl;
        words = λ z. absurd (refusal_numbered e z);
        hops = λ z. absurd (refusal_numbered e z);
        long_words = lw;
        long_hops = lh;
      }

  pub planned_found : (k : ℕ) → f ≡ refusal 0 0 → Addressed w ws k → HopsIn w h → PlannedAs f w (answer_of (Ok k)) ws h
  planned_found k is a hops =
      record {
        number = rw is refl;
        at = rw is refl;
        value = λ z. a.count;
        no_value = λ z. absurd (z refl);
        words = λ z. a.words;
        hops = λ z. hops;
        long_words = a.words.long;
        long_hops = hops.long;
      }
