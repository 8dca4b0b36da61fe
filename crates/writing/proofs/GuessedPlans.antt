-- A plan written from a file and any words has the file's wiring inside, so where it is read it is the planner's plan of the file. Assumes
-- nothing.
use mathlib.Core.Path.{◌≡◌, refl, sym, ap, ◌∙◌}
use mathlib.Core.Bool.{true}
use mathlib.Core.List.{List, ◌++◌}
use Prim.Native.Nat.{ℕ, suc, ◌+◌, ◌*◌, ◌-◌, ◌<◌}
use native.Mathlib.Omega.{arith}
use lib.ListN.{length, take, drop}
use lib.Seq.{take-append_seam}
use Rattle.std.specs.Prelude.{Result, Ok, Err, is_ok}
use Rattle.rack.specs.Lists.{tabulate, blocks}
use Rattle.rack.specs.Wiring.{Wiring}
use Rattle.rack.specs.Buffers.{number_at, two_bytes, Written}
use Rattle.rack.specs.WiringFile.{file_wiring, sizes_fault}
use Rattle.rack.specs.PlanFile.{address_size, plan_wiring}
use Rattle.rack.proofs.Logic.{true_not_false}
use Rattle.rack.proofs.Accepted.{clear_file}
use Rattle.rack.proofs.WiringFile.{Fits, two_bytes_value, wiring_at_written, wiring_at_cards, wiring_at_count, wiring_at_link}
use Rattle.plan_writer.specs.Writing.{word_byte, written_bytes}
use Rattle.planner.specs.PlanBytes.{plan_bytes}
use Rattle.planner.proofs.WriteAnswer.{ends_written}
use Rattle.rack.specs.declared.refused.Refused.{Refused}
use Rattle.reader.specs.Plan.{plan_refusal}
use Rattle.reader.specs.Reading.{ReadSays, sizes_of}
use Rattle.reader.specs.ReadPlans.{plan_of}
use Rattle.reader.specs.declared.views.ReadPlan.{ReadPlan}
use Rattle.reader.proofs.Plan.{plan_clear}
use Rattle.writing.specs.Guessing.{Bytes, GuessIs}

number_small : (bs : List ℕ) → Bytes bs → (p : ℕ) → number_at bs p < 65536
unfolding number_at
number_small bs bytes p = omega (arith, bytes p, bytes (suc p))

module _ (bs ws : List ℕ) (k : ℕ) (bytes : Bytes bs) where
  abbrev w : Wiring
  w = file_wiring bs

  file_fits : Fits w
  file_fits =
      record {
        cards = omega (arith, wiring_at_cards 4 bs, number_small bs bytes 0);
        count = omega (arith, wiring_at_count 4 bs, number_small bs bytes 2);
        first = λ i h. rw (wiring_at_link 4 bs i (omega (arith, wiring_at_count 4 bs))) (number_small bs bytes (4 + 2 * i));
        second = λ i h. rw (wiring_at_link 4 bs i (omega (arith, wiring_at_count 4 bs))) (number_small bs bytes (4 + 2 * number_at bs 2 + 2 * i));
      }

  abbrev sizes : List ℕ
  sizes = two_bytes (number_at bs 0) ++ two_bytes (number_at bs 2) ++ two_bytes k

  abbrev addresses : List ℕ
  addresses = blocks (number_at bs 0) (λ c. tabulate (address_size k) (word_byte ws c))

  -- the wiring inside is the file's
  pub guess_wiring : plan_wiring (written_bytes bs ws k) ≡ w
  unfolding written_bytes number_at two_bytes
  guess_wiring =
      rw (ends_written bs)
      (wiring_at_written w file_fits sizes addresses 6 refl
      (two_bytes_value (number_at bs 0) (number_small bs bytes 0) ∙ sym (wiring_at_cards 4 bs))
      (two_bytes_value (number_at bs 2) (number_small bs bytes 2) ∙ sym (wiring_at_count 4 bs)))

  -- where it is read, it is the planner's
  module _ (out : List ℕ) (sized : sizes_fault bs ≡ 0) (written : Written out (written_bytes bs ws k)) where
    part : take (length (written_bytes bs ws k)) (drop 0 out) ≡ written_bytes bs ws k
    part = rw written.is (take-append_seam (written_bytes bs ws k) _)

    pub guess_read : (v : ℕ) → v ≡ length (written_bytes bs ws k) → plan_refusal (take (v - 0) (drop 0 out)) ≡ 0 → GuessIs bs out v
    guess_read v e read =
        let all : v - 0 ≡ length (written_bytes bs ws k) = omega arith in
        let clear = plan_clear (written_bytes bs ws k) (rw (all, part) at read) in
        let same : plan_bytes w ≡ written_bytes bs ws k = rw guess_wiring at clear.2 in
        record {
          accepted = clear_file bs sized (rw guess_wiring at clear.1);
          is = e ∙ ap length (sym same);
          written = rw same written;
        }

-- what is read is not refused
pub read_clear : (ps : List ℕ) (r : Result ReadPlan Refused) → true ≡ is_ok r → ReadSays ps (sizes_of (plan_of r)) → plan_refusal ps ≡ 0
read_clear ps (Ok p) t says = sym says.number
read_clear ps (Err e) t says = true_not_false true refl t
