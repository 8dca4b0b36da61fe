-- Each return stands where the tests before it passed, and these are the tests of `sizes_fault` in their order. Assumes nothing.
use mathlib.Core.Path.{ap}
use mathlib.Core.Logic.{⊎_elim}
use Prim.Native.Nat.{ℕ}
use native.Mathlib.Omega.{arith}
use Rattle.rack.specs.Refusals.{refusal}
use Rattle.rack.proofs.WiringFile.{sized_clear}
use Rattle.survey.proofs.Forms.{sizes_short, sizes_zero_cards, sizes_many_cards, sizes_many_links, sizes_other_length}
use Rattle.survey.proofs.links.sized_file.Goals as goal

pub returns-then-file-lt4-clause-refuses : goal.returns-then-file-lt4-clause-refuses
returns-then-file-lt4-clause-refuses c = ap (λ (x : ℕ). refusal x 0) (sizes_short _ c.if-file-lt4.true)

pub returns-then-cards-eq0-clause-refuses : goal.returns-then-cards-eq0-clause-refuses
returns-then-cards-eq0-clause-refuses c =
    ap (λ (x : ℕ). refusal x 0)
    (⊎_elim (λ z. sizes_zero_cards _ (omega arith) (omega arith)) (λ z. sizes_many_cards _ (omega arith) (omega arith)) c.then-cards-eq0.either)

pub returns-then-links-gt-MOST_LINKS-clause-refuses : goal.returns-then-links-gt-MOST_LINKS-clause-refuses
returns-then-links-gt-MOST_LINKS-clause-refuses c =
    ap (λ (x : ℕ). refusal x 0) (sizes_many_links _ (omega arith) (omega arith) (omega arith) (omega arith))

pub returns-then-file-links-clause-refuses : goal.returns-then-file-links-clause-refuses
returns-then-file-links-clause-refuses c =
    ap (λ (x : ℕ). refusal x 0)
    (sizes_other_length _ (omega arith) (omega arith) (omega arith) (omega arith) (λ e. c.if-file-links.true (omega arith)))

pub returns-clause-refuses : goal.returns-clause-refuses
returns-clause-refuses c =
    sized_clear _ (record { head = omega arith; some = omega arith; cards = omega arith; links = omega arith; long = omega arith })
