-- What reading a plan with a sum, and reading and summing it, answer from what reading says. Assumes nothing.
use mathlib.Core.Path.{◌≡◌, refl, sym, ◌∙◌}
use mathlib.Core.Logic.{◌≢◌}
use mathlib.Core.List.{List}
use Prim.Native.Nat.{ℕ}
use native.Mathlib.Omega.{arith}
use borrow.Author.Tests.{eq-eqb, ne_eqb}
use Rattle.rack.specs.PlanFile.{plan_wiring}
use Rattle.reader.specs.Plan.{plan_refusal}
use Rattle.reader.specs.Reading.{Sizes, LaidOut, ReadSays, SizesSay, no_sizes}
use Rattle.reader.proofs.Reading.{no_sizes_say, read_laid_out}
use Rattle.totals.specs.Totals.{total_hops}
use Rattle.plan_totals.specs.Summed.{ReadWithTotalSays, SummedSays}
use Rattle.plan_totals.proofs.Refusals.{total_refused_before, other_total, clear_total, total_clear}

module _ (ps : List ℕ) (r : Sizes) (s : ReadSays ps r) where
  was_refused : r.number ≢ 0 → plan_refusal ps ≢ 0
  was_refused n e = n (s.number ∙ e)

  was_read : r.number ≡ 0 → plan_refusal ps ≡ 0
  was_read e = sym s.number ∙ e

  -- WITH A SUM t: refused before; another sum than x, which the code counted; that sum
  module _ (t : ℕ) where
    pub with_total_refused : r.number ≢ 0 → ReadWithTotalSays ps t r
    with_total_refused n = rw (total_refused_before ps t (was_refused n)) s

    module _ (e : r.number ≡ 0) (x : ℕ) (is : x ≡ total_hops (plan_wiring ps)) where
      pub with_other_total : (q : Sizes) → t ≢ x → q ≡ no_sizes 13 → ReadWithTotalSays ps t q
      with_other_total q n f = rw (other_total ps t (was_read e) (λ h. n (h ∙ sym is))) (no_sizes_say ps 13 q (λ z. omega arith) f)

      pub with_that_total : t ≡ x → ReadWithTotalSays ps t r
      with_that_total f = let z : SizesSay ps 0 r = rw (was_read e) at s in rw (clear_total ps t (was_read e) (f ∙ is)) z

  -- SUMMED: refused, and with the sum that the code counted
  pub summed_refused : r.number ≢ 0 → SummedSays ps (record { number = r.number; cards = 0; links = 0; columns = 0; total = 0 })
  summed_refused n =
      let f = ne_eqb (plan_refusal ps) 0 (was_refused n) in
      let sizes : ReadSays ps (no_sizes r.number) = record { number = s.number; cards = rw f refl; links = rw f refl; columns = rw f refl } in
      record { sizes = sizes; total = rw f refl }

  pub summed_answered : r.number ≡ 0 → (x : ℕ) → x ≡ total_hops (plan_wiring ps)
      → SummedSays ps (record { number = 0; cards = r.cards; links = r.links; columns = r.columns; total = x })
  summed_answered e x is =
      let f = eq-eqb (plan_refusal ps) 0 (was_read e) in
      let sizes : ReadSays ps (record { number = 0; cards = r.cards; links = r.links; columns = r.columns }) =
      record { number = sym (was_read e); cards = s.cards; links = s.links; columns = s.columns } in
      record { sizes = sizes; total = rw f is }

-- WITHOUT A REFUSAL the sizes answered are the plan's layout
pub total_laid_out : (ps : List ℕ) (t : ℕ) (s : Sizes) → ReadWithTotalSays ps t s → s.number ≡ 0 → LaidOut ps s
total_laid_out ps t s z e =
    let f = sym z.number ∙ e in
    read_laid_out ps s (rw (f, ← (total_clear ps t f).0) at z) e
