-- What is known of an accepted wiring. Assumes nothing.
use mathlib.Core.Path.{◌≡◌}
use mathlib.Core.Bool.{true}
use mathlib.Core.List.{List}
use Prim.Native.Nat.{ℕ, suc, ◌≤◌, ◌<◌}
use native.Mathlib.Omega.{arith}
use lib.Dec.{leb, eqb}
use borrow.Author.Tests.{le-leb, eq-eqb}
use Rattle.rack.specs.Wiring.{Wiring, link, link_count, link_at}
use Rattle.rack.specs.Columns.{column_count, address, Embedding}
use Rattle.rack.specs.Refusals.{refusal, links_refusal, well_formed, rack_refusal, wiring_refusal}
use Rattle.rack.specs.WiringFile.{file_wiring, sizes_fault, form_refusal, file_refusal}
use Rattle.rack.proofs.Logic.{and_both}
use Rattle.rack.proofs.Lists.{in_get_or}
use Rattle.rack.proofs.Crossing.{Rack, link_inside}
use Rattle.rack.proofs.Refusals.{or_else_clear, or_else_second, well_formed_rack}
use Rattle.rack.proofs.Acceptance.{accepted_embedding}
use Rattle.rack.proofs.FewColumns.{few_columns}
use Rattle.rack.proofs.WiringFile.{Sized, sizes_clear}

pub record Accepted (w : Wiring) : Type 0 where
  pub rack : Rack w
  pub embedding : Embedding w (column_count w) (address w)
  pub few : suc (column_count w) ≤ w.cards

pub links_well_formed : (w : Wiring) → 1 ≤ w.cards → (links_refusal w).number ≡ 0 → well_formed w ≡ true
unfolding well_formed
links_well_formed w some h = and_both (leb 1 w.cards) (eqb (links_refusal w).number 0) (le-leb 1 w.cards some) (eq-eqb (links_refusal w).number 0 h)

pub wiring_accepted : (w : Wiring) → 1 ≤ w.cards → (wiring_refusal w).number ≡ 0 → Accepted w
unfolding wiring_refusal
wiring_accepted w some h =
    let c = or_else_clear (links_refusal w) (rack_refusal w) h in
    let a = accepted_embedding w c.1 in
    let rack = well_formed_rack w (links_well_formed w some c.0) a.0 in
    record { rack = rack; embedding = a.1; few = omega (arith, few_columns w rack a.1) }

pub accepted_inside : (w : Wiring) → Accepted w → (i : ℕ) → i < link_count w → ((link_at w i).first < w.cards) × ((link_at w i).second < w.cards)
accepted_inside w a i h = link_inside w a.rack (link_at w i) (in_get_or w.links i (link 0 0) h)

-- an accepted file has sizes in range and an accepted wiring; and back
pub file_clear : (bs : List ℕ) → (file_refusal bs).number ≡ 0 → Sized bs × ((wiring_refusal (file_wiring bs)).number ≡ 0)
unfolding file_refusal form_refusal wiring_refusal
file_clear bs h =
    let a = or_else_clear (form_refusal bs) (rack_refusal (file_wiring bs)) h in
    let b = or_else_clear (refusal (sizes_fault bs) 0) (links_refusal (file_wiring bs)) a.0 in
    (sizes_clear bs b.0, rw (or_else_second (links_refusal (file_wiring bs)) (rack_refusal (file_wiring bs)) b.1) a.1)

pub clear_file : (bs : List ℕ) → sizes_fault bs ≡ 0 → (wiring_refusal (file_wiring bs)).number ≡ 0 → (file_refusal bs).number ≡ 0
unfolding file_refusal form_refusal wiring_refusal
clear_file bs z h =
    let c = or_else_clear (links_refusal (file_wiring bs)) (rack_refusal (file_wiring bs)) h in
    rw (
      or_else_second (refusal (sizes_fault bs) 0) (links_refusal (file_wiring bs)) z,
      or_else_second (links_refusal (file_wiring bs))
          (rack_refusal (file_wiring bs)) c.0,
    ) c.1
