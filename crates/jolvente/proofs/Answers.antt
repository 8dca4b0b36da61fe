-- What the C calls return and leave, from what the calls below them answer. Assumes nothing.
use mathlib.Core.Path.{◌≡◌, refl, sym, ap, ap₂, ◌∙◌}
use mathlib.Core.Bool.{Bool, true, false, cond}
use mathlib.Core.Logic.{◌≢◌}
use mathlib.Core.List.{List, ◌++◌, append-nil}
use Prim.Native.Nat.{ℕ, ◌+◌, ◌*◌, ◌-◌}
use native.Mathlib.Omega.{arith}
use lib.Dec.{eqb}
use lib.ListN.{length, replicate}
use borrow.Author.Tests.{eq-eqb, ne_eqb}
use Rattle.rack.specs.Refusals.{refusal}
use Rattle.rack.specs.Buffers.{two_bytes, four_bytes}
use Rattle.rack.specs.WiringFile.{file_wiring}
use Rattle.rack.proofs.Logic.{by_eq}
use Rattle.planner.specs.PlanBytes.{plan_bytes}
use Rattle.rack.specs.Limits.{lent_plan}
use Rattle.planner.specs.Planning.{left_in, writing_refusal, WriteSays}
use Rattle.planner.specs.Answer.{Answer}
use Rattle.planner.proofs.PlanAnswer.{file_not_one, left_untouched, left_filled, left_zero}
use Rattle.rack.specs.PlanFile.{plan_cards, plan_links, plan_columns}
use Rattle.reader.specs.Plan.{plan_refusal}
use Rattle.reader.specs.Reading.{ReadSays}
use Rattle.reader.specs.Reading.{Sizes}
use Rattle.jolvente.specs.Records.{lent_record, record_bytes}
use Rattle.jolvente.specs.CCalls.{returned, c_write_refusal, CWriteSays, c_read_refusal, CReadSays}
use Rattle.jolvente.proofs.RecordBytes.{length_record}

cond_same : {A : Type 0} (t : Bool) (x : A) → cond t x x ≡ x
cond_same true x = refl
cond_same false x = refl

pub record_zero : record_bytes 0 0 0 0 ≡ replicate lent_record 0
unfolding record_bytes four_bytes two_bytes
record_zero = refl

-- THE WRITER
module _ (bs plan rec : List ℕ) where
  untouched : c_write_refusal bs (length plan) (length rec) ≡ refusal 1 0 → CWriteSays bs 1 plan plan rec rec
  unfolding returned
  untouched e =
      record {
        answer = rw e refl;
        plan_left = rw e (sym (left_untouched (plan_bytes (file_wiring bs)) plan));
        record_left = rw e (sym (left_untouched (record_bytes (length (plan_bytes (file_wiring bs))) 0 0 0) rec));
      }

  pub no_plan_room : length plan ≢ lent_plan → CWriteSays bs 1 plan plan rec rec
  unfolding c_write_refusal writing_refusal
  no_plan_room h = untouched (rw (ne_eqb (length plan) lent_plan h) (cond_same (eqb (length rec) lent_record) (refusal 1 0)))

  pub no_record_room : length rec ≢ lent_record → CWriteSays bs 1 plan plan rec rec
  unfolding c_write_refusal
  no_record_room h = untouched (rw (ne_eqb (length rec) lent_record h) refl)

  module _ (plan_now rec_now : List ℕ) (r : Answer) (room : length plan ≡ lent_plan) (record_room : length rec ≡ lent_record) (s : WriteSays bs r plan plan_now)
      (w : rec_now ≡ record_bytes r.value 0 0 0) where
    same : c_write_refusal bs (length plan) (length rec) ≡ writing_refusal bs (length plan)
    unfolding c_write_refusal
    same = rw (eq-eqb (length rec) lent_record record_room) refl

    number : r.number ≡ (writing_refusal bs (length plan)).number
    number = s.answer.number

    not_one : r.number ≢ 1
    unfolding writing_refusal
    not_one e = file_not_one bs (sym (number ∙ rw (eq-eqb (length plan) lent_plan room) refl) ∙ e)

    abbrev long : ℕ
    long = length (plan_bytes (file_wiring bs))

    abbrev new : List ℕ
    new = record_bytes long 0 0 0

    value_long : r.number ≡ 0 → r.value ≡ long
    value_long z = s.answer.value ∙ rw (eq-eqb (writing_refusal bs (length plan)).number 0 (sym number ∙ z)) refl

    value_zero : r.number ≢ 0 → r.value ≡ 0
    value_zero n = s.answer.value ∙ rw (ne_eqb (writing_refusal bs (length plan)).number 0 (λ e. n (number ∙ e))) refl

    filled : r.number ≡ 0 → rec_now ≡ left_in r.number new rec
    filled z =
        let is : rec_now ≡ new = w ∙ ap (λ (x : ℕ). record_bytes x 0 0 0) (value_long z) in
        let e : length rec_now - length new ≡ 0 = omega (arith, ap length is) in
        left_filled r.number new rec rec_now z (ap length is ∙ length_record long 0 0 0 ∙ sym record_room)
        (is ∙ sym (append-nil new) ∙ ap (λ (k : ℕ). new ++ replicate k 0) (sym e))

    zero : r.number ≢ 0 → rec_now ≡ left_in r.number new rec
    zero n =
        w ∙ ap (λ (x : ℕ). record_bytes x 0 0 0) (value_zero n) ∙ record_zero ∙ ap (λ (k : ℕ). replicate k 0) (sym record_room)
        ∙ sym (left_zero r.number new rec n not_one)

    pub plan_said : CWriteSays bs (r.number + 256 * r.at) plan plan_now rec rec_now
    unfolding returned
    plan_said =
        record {
          answer = rw same (ap₂ (λ (x y : ℕ). x + 256 * y) s.answer.number s.answer.at);
          plan_left = rw (same, ← number) s.output_left;
          record_left = rw (same, ← number) (by_eq r.number 0 filled zero);
        }

-- THE READER
module _ (ps rec : List ℕ) where
  pub no_room : length rec ≢ lent_record → CReadSays ps 1 rec rec
  unfolding c_read_refusal
  no_room h = record { answer = rw (ne_eqb (length rec) lent_record h) refl; record_left = refl }

  module _ (s : Sizes) (room : length rec ≡ lent_record) (says : ReadSays ps s) where
    answered : s.number ≡ c_read_refusal ps (length rec)
    unfolding c_read_refusal
    answered = rw (eq-eqb (length rec) lent_record room) says.number

    pub read_refused : s.number ≢ 0 → CReadSays ps s.number rec rec
    read_refused n = record { answer = answered; record_left = rw (ne_eqb s.number 0 n) refl }

    pub sizes_said : s.number ≡ 0 → (rec_now : List ℕ) → rec_now ≡ record_bytes s.cards s.links s.columns 0 → CReadSays ps 0 rec rec_now
    sizes_said z rec_now w =
        let e = eq-eqb (plan_refusal ps) 0 (sym says.number ∙ z) in
        let cards : s.cards ≡ plan_cards ps = says.cards ∙ rw e refl in
        let links : s.links ≡ plan_links ps = says.links ∙ rw e refl in
        let columns : s.columns ≡ plan_columns ps = says.columns ∙ rw e refl in
        record { answer = sym z ∙ answered; record_left = w ∙ rw (cards, links, columns) refl }
