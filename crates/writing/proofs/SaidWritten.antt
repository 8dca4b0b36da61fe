-- What writing says of an accepted file, whatever stood in the buffer. Assumes nothing.
use mathlib.Core.Path.{◌≡◌, refl, sym, ◌∙◌}
use mathlib.Core.Logic.{◌≢◌}
use mathlib.Core.List.{List}
use Prim.Native.Nat.{ℕ}
use lib.ListN.{length}
use borrow.Author.Tests.{eq-eqb, ne_eqb}
use Rattle.rack.specs.Buffers.{Written}
use Rattle.rack.specs.WiringFile.{file_wiring, file_refusal}
use Rattle.planner.specs.PlanBytes.{plan_bytes}
use Rattle.rack.specs.Limits.{lent_plan}
use Rattle.planner.specs.Planning.{left_in, writing_refusal, WriteSays}
use Rattle.planner.specs.Answer.{Answer}
use Rattle.planner.proofs.WriteAnswer.{at_zero}
use Rattle.planner.proofs.PlanAnswer.{file_not_one, left_filled}

-- WRITING the plan of an accepted file into a buffer of its length
pub write_says_accepted : (bs o out : List ℕ) (v : ℕ) → length o ≡ lent_plan → (file_refusal bs).number ≡ 0 → length out ≡ length o
    → Written out (plan_bytes (file_wiring bs)) → v ≡ length (plan_bytes (file_wiring bs)) → WriteSays bs (record { number = 0; at = 0; value = v }) o out
unfolding writing_refusal
write_says_accepted bs o out v lo accepted l w e =
    record {
      answer = rw (eq-eqb (length o) lent_plan lo)
          (record {
            number = sym accepted;
            at = sym (at_zero bs accepted);
            value = e ∙ sym (rw (eq-eqb (file_refusal bs).number 0 accepted) refl);
          });
      output_left = left_filled 0 (plan_bytes (file_wiring bs)) o out refl l w.is;
    }

-- what was in a buffer of its length does not matter
pub write_says_over : (bs : List ℕ) (r : Answer) (old o out : List ℕ) → length old ≡ length o → length o ≡ lent_plan → WriteSays bs r old out → WriteSays bs r o out
unfolding writing_refusal left_in
write_says_over bs r old o out l lo says =
    record {
      answer = rw l at says.answer;
      output_left = rw (ne_eqb r.number 1 not_one, l) at says.output_left ∙ sym (rw (ne_eqb r.number 1 not_one) refl);
    }
  where
    not_one : r.number ≢ 1
    not_one e = file_not_one bs (sym (rw (l, eq-eqb (length o) lent_plan lo) at says.answer.number) ∙ e)
