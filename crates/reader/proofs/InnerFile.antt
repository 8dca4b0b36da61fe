-- The wiring file inside a plan: cut out of the plan's bytes, it holds the plan's wiring. Assumes nothing.
use mathlib.Core.Path.{◌≡◌, refl, sym, ap, ap₂, ◌∙◌}
use mathlib.Core.List.{List, [], ◌++◌}
use Prim.Native.Nat.{ℕ, suc, ◌+◌, ◌*◌, ◌-◌, ◌≤◌, ◌<◌}
use native.Mathlib.Nat.{sub-zero}
use native.Mathlib.Omega.{arith}
use lib.ListN.{length, get_or, take, drop, replicate, length-append}
use lib.Seq.{get_or-take, get_or-drop, take_at}
use Rattle.rack.specs.Wiring.{link, wiring}
use Rattle.rack.specs.Refusals.{refusal, links_refusal, wiring_refusal}
use Rattle.rack.specs.Buffers.{number_at, Written}
use Rattle.rack.specs.WiringFile.{wiring_at, file_wiring, sizes_fault, form_refusal, file_refusal}
use Rattle.rack.proofs.Tables.{tabulate_ext}
use Rattle.rack.proofs.Refusals.{or_else_second}
use Rattle.rack.proofs.WiringFile.{sized_clear, number_at_left, number_at_right}
use Rattle.rack.specs.PlanFile.{plan_links, plan_wiring}
use Rattle.rack.specs.declared.output.Output.{Output}
use Rattle.rack.specs.Putting.{Grows}
use Rattle.rack.proofs.Putting.{grows_then, grown_written}
use Rattle.reader.proofs.Plan.{Layout, layout_head}
use Rattle.reader.proofs.Parts.{length_part}

-- sizes, then ends
abbrev pub inner_file : List ℕ → List ℕ
inner_file ps = take 4 (drop 0 ps) ++ take (4 * plan_links ps) (drop 6 ps)

part_number : (k n i : ℕ) (xs : List ℕ) → suc i < n → number_at (take n (drop k xs)) i ≡ number_at xs (k + i)
unfolding number_at
part_number k n i xs h =
    let e : k + suc i ≡ suc (k + i) = omega arith in
    ap₂ (λ (a b : ℕ). a + 256 * b) (get_or-take n (drop k xs) i 0 (omega arith) ∙ get_or-drop k xs i 0)
    (get_or-take n (drop k xs) (suc i) 0 h ∙ get_or-drop k xs (suc i) 0 ∙ ap (λ (p : ℕ). get_or xs p 0) e)

module _ (ps : List ℕ) (z : Layout ps) where
  length_head : length (take 4 (drop 0 ps)) ≡ 4
  length_head = length_part 0 4 ps (omega (arith, layout_head ps z))

  pub length_inner : length (inner_file ps) ≡ 4 + 4 * plan_links ps
  length_inner = simp length-append (omega (arith, length_head, length_part 6 (4 * plan_links ps) ps (omega (arith, z.long))))

  head_number : (i : ℕ) → suc i < 4 → number_at (inner_file ps) i ≡ number_at ps i
  head_number i h =
      number_at_left (take 4 (drop 0 ps)) (take (4 * plan_links ps) (drop 6 ps)) i (omega (arith, length_head))
      ∙ part_number 0 4 i ps h ∙ ap (number_at ps) (omega arith)

  end_number : (i : ℕ) → suc i < 4 * plan_links ps → number_at (inner_file ps) (4 + i) ≡ number_at ps (6 + i)
  end_number i h =
      ap (λ (p : ℕ). number_at (inner_file ps) (p + i)) (sym length_head)
      ∙ number_at_right (take 4 (drop 0 ps)) (take (4 * plan_links ps) (drop 6 ps)) i ∙ part_number 6 (4 * plan_links ps) i ps h

  pub inner_wiring : file_wiring (inner_file ps) ≡ plan_wiring ps
  unfolding wiring_at
  inner_wiring =
      rw (head_number 0 (omega arith), head_number 2 (omega arith))
      (ap (wiring (number_at ps 0)) (tabulate_ext (plan_links ps) _ _ ends))
    where
      ends : (i : ℕ) → i < plan_links ps
          → link (number_at (inner_file ps) (4 + 2 * i)) (number_at (inner_file ps) (4 + 2 * plan_links ps + 2 * i)) ≡ link (number_at ps (6 + 2 * i))
          (number_at ps (6 + 2 * plan_links ps + 2 * i))
      ends i h =
          let e : 4 + 2 * plan_links ps + 2 * i ≡ 4 + (2 * plan_links ps + 2 * i) = omega arith in
          let f : 6 + (2 * plan_links ps + 2 * i) ≡ 6 + 2 * plan_links ps + 2 * i = omega arith in
          ap₂ link (end_number (2 * i) (omega arith)) (ap (number_at (inner_file ps)) e ∙ end_number (2 * plan_links ps + 2 * i) (omega arith) ∙ ap (number_at ps) f)

  inner_sizes : sizes_fault (inner_file ps) ≡ 0
  inner_sizes =
      sized_clear (inner_file ps)
      (record {
        head = omega (arith, length_inner);
        some = omega (arith, head_number 0 (omega arith), z.some);
        cards = omega (arith, head_number 0 (omega arith), z.few);
        links = omega (arith, head_number 2 (omega arith), z.few_links);
        long = omega (arith, length_inner, head_number 2 (omega arith));
      })

  pub inner_refusal : file_refusal (inner_file ps) ≡ wiring_refusal (plan_wiring ps)
  unfolding file_refusal form_refusal wiring_refusal
  inner_refusal = rw (or_else_second (refusal (sizes_fault (inner_file ps)) 0) (links_refusal (file_wiring (inner_file ps))) inner_sizes, inner_wiring) refl

-- copied into a buffer of which nothing was written, piece after piece
pub inner_copied : (ps : List ℕ) (ends : ℕ) {a b c : Output} → 6 + ends ≤ length ps → a.length ≡ 0 → Written a.bytes.now []
    → Grows a b (take 4 (drop 0 ps)) → Grows b c (take ends (drop 6 ps)) → take (4 + ends) c.bytes.now ≡ take 4 (drop 0 ps) ++ take ends (drop 6 ps)
inner_copied ps ends {c = c} h z e p q =
    let is = take 4 (drop 0 ps) ++ take ends (drop 6 ps) in
    let w = grown_written z e (grows_then p q) in
    ap (take (4 + ends)) w.is
    ∙ take_at is (replicate (length c.bytes.now - length is) 0) (4 + ends)
    (simp length-append (omega (arith, length_part 0 4 ps (omega arith), length_part 6 ends ps (omega arith))))

-- and lent as a part of that buffer
pub inner_lent : (ps o : List ℕ) (m : ℕ) → m ≡ plan_links ps → take (4 + 4 * m) o ≡ take 4 (drop 0 ps) ++ take (4 * m) (drop 6 ps) → take (4 + 4 * m - 0) o ≡ inner_file ps
inner_lent ps o m e h = rw sub-zero (h ∙ ap (λ (k : ℕ). take 4 (drop 0 ps) ++ take (4 * k) (drop 6 ps)) e)
