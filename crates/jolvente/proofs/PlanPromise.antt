-- Demands 2 and 3 of the C writer, and the reader's promise, from what the two calls say. Assumes nothing.
use mathlib.Core.Path.{◌≡◌, refl, sym, subst, ◌∙◌}
use mathlib.Core.Bool.{cond}
use mathlib.Core.Logic.{◌≢◌}
use mathlib.Core.List.{List}
use Prim.Native.Nat.{ℕ, ◌+◌, ◌*◌, ◌%◌}
use native.Mathlib.Omega.{arith}
use lib.Dec.{eqb}
use lib.ListN.{length}
use borrow.Author.Tests.{eq-eqb, ne_eqb}
use Rattle.rack.specs.Limits.{lent_plan}
use Rattle.rack.specs.WiringFile.{file_wiring, file_refusal}
use Rattle.rack.specs.PlanFile.{plan_columns, plan_bit}
use Rattle.rack.proofs.Logic.{by_eq}
use Rattle.rack.proofs.Numbers.{file_numbers}
use Rattle.planner.specs.PlanBytes.{plan_bytes}
use Rattle.planner.specs.Planning.{writing_refusal, WriteSays, Found}
use Rattle.planner.specs.Answer.{Answer}
use Rattle.planner.proofs.WritePromise.{plan_found}
use Rattle.reader.specs.Promises.{Measured}
use Rattle.reader.proofs.Promises.{read_measured}
use Rattle.jolvente.specs.Records.{lent_record}
use Rattle.jolvente.specs.CCalls.{returned, c_write_refusal, CWriteSays, CAsked, CFound, c_read_refusal, CReadSays}

-- THE WRITER leaves what `write_plan` does, and its number is that of the refusal
module _ (bs : List ℕ) (r : ℕ) (plan plan_now rec rec_now : List ℕ) (s : CWriteSays bs r plan plan_now rec rec_now) (q : CAsked bs plan rec) where
  abbrev answer : Answer
  answer =
      let f = writing_refusal bs (length plan) in
      record { number = f.number; at = f.at; value = cond (eqb f.number 0) (length (plan_bytes (file_wiring bs))) 0 }

  same : c_write_refusal bs (length plan) (length rec) ≡ writing_refusal bs (length plan)
  unfolding c_write_refusal
  same = rw (eq-eqb (length rec) lent_record q.record_room) refl

  answer_says : WriteSays bs answer plan plan_now
  answer_says = record { answer = record { number = refl; at = refl; value = refl }; output_left = rw same at s.plan_left }

  file_refused : writing_refusal bs (length plan) ≡ file_refusal bs
  unfolding writing_refusal
  file_refused = rw (eq-eqb (length plan) lent_plan q.room) refl

  number_returned : r % 256 ≡ (writing_refusal bs (length plan)).number
  unfolding returned
  number_returned =
      let f = file_refusal bs in
      let e : r ≡ f.number + 256 * f.at = s.answer ∙ rw (same, file_refused) refl in
      rw file_refused (omega (arith, (file_numbers bs).1))

  pub c_found : CFound bs r plan_now
  c_found =
      subst (λ (x : ℕ). Found (file_wiring bs) x (plan_columns plan_now) (plan_bit plan_now)) (sym number_returned)
      (plan_found bs answer plan plan_now (record { room = q.room; formed = q.formed; whole = q.whole }) answer_says)

pub with_found : (bs : List ℕ) (r : ℕ) (plan plan_now rec rec_now : List ℕ) → CWriteSays bs r plan plan_now rec rec_now
    → record { says : CWriteSays bs r plan plan_now rec rec_now; found : CAsked bs plan rec → CFound bs r plan_now }
with_found bs r plan plan_now rec rec_now s = record { says = s; found = c_found bs r plan plan_now rec rec_now s }

-- THE READER refuses nothing that is not measured
pub c_measured : (ps : List ℕ) (r : ℕ) (rec rec_now : List ℕ) → CReadSays ps r rec rec_now → r ≡ 0 → Measured ps
unfolding c_read_refusal
c_measured ps r rec rec_now s z =
    by_eq (length rec) lent_record
    (λ (e : length rec ≡ lent_record). read_measured ps (sym (s.answer ∙ rw (eq-eqb (length rec) lent_record e) refl) ∙ z))
    (λ (n : length rec ≢ lent_record). let one : r ≡ 1 = s.answer ∙ rw (ne_eqb (length rec) lent_record n) refl in absurd (omega arith))

pub with_promise : (ps : List ℕ) (r : ℕ) (rec rec_now : List ℕ) → CReadSays ps r rec rec_now
    → record { says : CReadSays ps r rec rec_now; promise : r ≡ 0 → Measured ps }
with_promise ps r rec rec_now s = record { says = s; promise = c_measured ps r rec rec_now s }
