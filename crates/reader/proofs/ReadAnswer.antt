-- What reading says: 12 from the layout, 13 or 0 from what the planner writes for the wiring file inside. Assumes nothing.
use mathlib.Core.Path.{◌≡◌, refl, sym, ap, ◌∙◌}
use mathlib.Core.Bool.{Bool, true, false}
use mathlib.Core.Logic.{◌≢◌}
use mathlib.Core.List.{List, ◌++◌}
use Prim.Native.Nat.{ℕ, ◌+◌, ◌*◌, ◌-◌, ◌≤◌}
use native.Mathlib.Omega.{arith}
use lib.Dec.{eqb}
use lib.ListN.{length, take, drop, replicate, length-append, length-replicate}
use lib.Seq.{take_at}
use borrow.Author.Tests.{eqb-true, eq-eqb, ne_eqb}
use Rattle.rack.specs.Lists.{same}
use Rattle.rack.specs.Refusals.{Refusal, wiring_refusal}
use Rattle.rack.proofs.Logic.{by_bool, not_true_false}
use Rattle.rack.proofs.Lists.{same_eq}
use Rattle.planner.specs.PlanBytes.{plan_bytes}
use Rattle.rack.specs.Limits.{lent_plan}
use Rattle.planner.specs.Planning.{left_in, writing_refusal, WriteSays}
use Rattle.planner.specs.Answer.{Answer}
use Rattle.rack.specs.PlanFile.{plan_wiring, Sized}
use Rattle.reader.specs.Plan.{layout_holds, content_holds, plan_refusal}
use Rattle.reader.specs.Promises.{Measured}
use Rattle.reader.specs.Reading.{Sizes, SizesSay, no_sizes, layout_refusal, LayoutSays, ReadSays}
use Rattle.reader.proofs.Plan.{layout_facts, facts_layout}
use Rattle.reader.proofs.Promises.{read_measured}
use Rattle.reader.proofs.Reading.{no_sizes_say, says_layout}
use Rattle.reader.proofs.InnerFile.{inner_file, inner_wiring, inner_refusal, inner_lent}

module _ (ps : List ℕ) (r : Sizes) (s : LayoutSays ps r) where
  -- 12
  pub read_says_layout : r.number ≢ 0 → ReadSays ps r
  unfolding layout_refusal plan_refusal
  read_says_layout n =
      by_bool (layout_holds ps)
      (λ (t : layout_holds ps ≡ true). absurd (n (rw t at s.number)))
      (λ (t : layout_holds ps ≡ false). let z : SizesSay ps 12 r = rw t at s in rw t z)

  pub read_says_sizes : r.number ≡ 0 → content_holds ps ≡ true → ReadSays ps r
  unfolding layout_refusal plan_refusal
  read_says_sizes e h = let l = says_layout ps r s e in let z : SizesSay ps 0 r = rw l at s in rw (l, h) z

-- 13
pub read_says_content : (ps : List ℕ) (r : Sizes) → layout_holds ps ≡ true → content_holds ps ≡ false → r ≡ no_sizes 13 → ReadSays ps r
unfolding plan_refusal
read_says_content ps r l h e = rw (l, h) (no_sizes_say ps 13 r (λ z. omega arith) e)

-- what the planner answered for the wiring file inside, and what it left in a buffer
pub record InnerWritten (ps : List ℕ) (a : Answer) (old out : List ℕ) : Type 0 where
  pub layout : layout_holds ps ≡ true
  pub room : length old ≡ lent_plan
  pub says : WriteSays (inner_file ps) a old out

-- where that file was copied to the front of a buffer
pub inner_written : (ps o : List ℕ) {n m k : ℕ} → Sized ps n m k → take (4 + 4 * m) o ≡ take 4 (drop 0 ps) ++ take (4 * m) (drop 6 ps)
    → (a : Answer) (out : List ℕ) → WriteSays (take (4 + 4 * m - 0) o) a (replicate lent_plan 0) out → InnerWritten ps a (replicate lent_plan 0) out
inner_written ps o {n} {m} {k} z copied a out says =
    record {
      layout = facts_layout ps z;
      room = length-replicate {A = ℕ} lent_plan 0;
      says = rw (inner_lent ps o m z.links copied) at says;
    }

module _ (ps : List ℕ) (a : Answer) (o out : List ℕ) (w : InnerWritten ps a o out) where
  abbrev plan : List ℕ
  plan = plan_bytes (plan_wiring ps)

  inner_number : a.number ≡ (wiring_refusal (plan_wiring ps)).number
  unfolding writing_refusal
  inner_number =
      w.says.answer.number
      ∙ rw (eq-eqb (length o) lent_plan w.room) (ap (λ (f : Refusal). f.number) (inner_refusal ps (layout_facts ps w.layout)))

  pub content_refused : a.number ≢ 0 → content_holds ps ≡ false
  unfolding content_holds
  content_refused n = rw (ne_eqb (wiring_refusal (plan_wiring ps)).number 0 (λ e. n (inner_number ∙ e))) refl

  -- an accepted wiring: the length and the bytes decide
  module _ (z : a.number ≡ 0) where
    bytes_decide : content_holds ps ≡ same eqb plan ps
    unfolding content_holds
    bytes_decide = rw (eq-eqb (wiring_refusal (plan_wiring ps)).number 0 (sym inner_number ∙ z)) refl

    length_answered : a.value ≡ length plan
    unfolding writing_refusal
    length_answered =
        w.says.answer.value
        ∙ rw (
          eq-eqb (writing_refusal (inner_file ps) (length o)).number 0 (sym w.says.answer.number ∙ z),
          inner_wiring ps (layout_facts ps w.layout),
        ) refl

    written : out ≡ plan ++ replicate (length o - length plan) 0
    unfolding left_in
    written = w.says.output_left ∙ rw (z, inner_wiring ps (layout_facts ps w.layout)) refl

    pub content_room : a.value ≡ length ps → length ps ≤ length out
    content_room e = omega (arith, length_answered, ap length written, length-append plan (replicate (length o - length plan) 0))

    pub content_other_length : a.value ≢ length ps → content_holds ps ≡ false
    content_other_length n =
        bytes_decide ∙ not_true_false (same eqb plan ps) (λ t. n (length_answered ∙ ap length (same_eq eqb eqb-true plan ps t)))

    pub content_as_compared : a.value ≡ length ps → (t : Bool) → t ≡ same eqb (take (length ps) out) ps → content_holds ps ≡ t
    content_as_compared e t g =
        bytes_decide ∙ sym (g ∙ ap (λ (xs : List ℕ). same eqb xs ps)
        (ap (take (length ps)) written ∙ take_at plan (replicate (length o - length plan) 0) (length ps) (sym length_answered ∙ e)))

-- what the forwarder may lean on, of a plan that passed 12 and 13
pub content_measured : (ps : List ℕ) {n m k : ℕ} → Sized ps n m k → content_holds ps ≡ true → Measured ps
unfolding plan_refusal
content_measured ps z h = read_measured ps (rw (facts_layout ps z, h) refl)
