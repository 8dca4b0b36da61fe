-- A link's ends differ in the link's column alone. Assumes nothing.
use mathlib.Core.Path.{◌≡◌, sym, ap, ◌∙◌}
use mathlib.Core.Bool.{false}
use mathlib.Core.List.{List, []}
use Prim.Native.Nat.{ℕ, ◌<◌}
use native.Mathlib.Omega.{arith}
use lib.ListN.{get_or}
use Rattle.rack.specs.Wiring.{Link, Wiring, link, link_at}
use Rattle.rack.specs.Columns.{column, same_column, columns, column_count, address}
use Rattle.rack.specs.Embeddings.{column_of}
use Rattle.rack.proofs.Logic.{not_true_false, differ_false, differ_sym}
use Rattle.rack.proofs.Lists.{In, in_get_or}
use Rattle.rack.proofs.Tables.{lowest_is, tabulate_ext}
use Rattle.rack.proofs.Columns.{column_of_address, address_zero, same_column_eq, same_column_self}
use Rattle.rack.proofs.Crossing.{Crossing, crossing_only, link_inside, link_crossing, column_crossing}
use Rattle.rack.proofs.Accepted.{Accepted, wiring_accepted}
use Rattle.rack.specs.PlanFile.{plan_wiring, plan_bit}
use Rattle.reader.specs.Plan.{plan_refusal}
use Rattle.reader.proofs.Promises.{read_accepted, read_columns, read_bit}
use Rattle.crossing.specs.Differing.{lowest_differing, plan_differing, column_number}
use Rattle.crossing.specs.Promises.{CrossesLinkColumn, LinkCrosses, PlanLinkCrosses}
use Rattle.crossing.proofs.Differing.{differing_ended, differing_ext}

module _ (w : Wiring) (acc : Accepted w) (l : Link) (i : In l w.links) where
  abbrev k : ℕ
  k = column_count w

  -- the one place in which the ends differ
  abbrev x : Crossing k (address w) l.first l.second
  x = link_crossing w k (address w) acc.embedding acc.rack l i

  crossed_column : column w l ≡ get_or (columns w) x.at []
  unfolding column_of
  crossed_column =
      column_crossing w k (address w) acc.embedding acc.rack l i
      ∙ tabulate_ext w.cards _ (λ c. address w c x.at) (λ c h. rw (address_zero w x.at) (differ_sym (address w c x.at) false))
      ∙ column_of_address w x.at x.inside

  only_column : (j : ℕ) → j < k → column w l ≡ get_or (columns w) j [] → x.at ≡ j
  unfolding address
  only_column j h e = crossing_only x j h (rw (← e, crossed_column) x.split)

  number_crossed : column_number w l ≡ x.at
  unfolding column_number
  number_crossed =
      lowest_is k (λ j. same_column (column w l) (get_or (columns w) j [])) x.at (omega (arith, x.inside))
      (λ j h. not_true_false (same_column (column w l) (get_or (columns w) j [])) (λ t.
      let e = only_column j (omega (arith, x.inside)) (same_column_eq (column w l) (get_or (columns w) j []) t) in omega arith))
      (λ h. rw (← crossed_column) (same_column_self (column w l)))

  -- below it they agree
  ends_agree : (j : ℕ) → j < x.at → address w l.first j ≡ address w l.second j
  ends_agree j h = differ_false (address w l.first j) (address w l.second j) (x.others j (omega (arith, x.inside)) (λ e. omega arith))

  crosses_link_column : CrossesLinkColumn w k (λ a b. lowest_differing k (address w a) (address w b)) l
  crosses_link_column =
      record {
        inside = rw number_crossed x.inside;
        numbered = rw number_crossed (sym crossed_column);
        there =
            differing_ended k (address w l.first) (address w l.second) x.at (omega (arith, x.inside)) ends_agree (λ _. x.split)
            ∙ sym number_crossed;
        back =
            differing_ended k (address w l.second) (address w l.first) x.at (omega (arith, x.inside)) (λ j h. sym (ends_agree j h))
            (λ _. differ_sym (address w l.second x.at) (address w l.first x.at) ∙ x.split)
            ∙ sym number_crossed;
      }

pub link_crosses : LinkCrosses
unfolding LinkCrosses
link_crosses w i some h l = crosses_link_column w (wiring_accepted w some h) (link_at w i) (in_get_or w.links i (link 0 0) l)

-- a plan that was read has the planner's columns and addresses
module _ (ps : List ℕ) (h : plan_refusal ps ≡ 0) where
  read_differing : (a b : ℕ) → a < (plan_wiring ps).cards → b < (plan_wiring ps).cards
      → plan_differing ps a b
      ≡ lowest_differing (column_count (plan_wiring ps)) (address (plan_wiring ps) a) (address (plan_wiring ps) b)
  unfolding plan_differing
  read_differing a b ha hb =
      let k = column_count (plan_wiring ps) in
      ap (λ (j : ℕ). lowest_differing j (plan_bit ps a) (plan_bit ps b)) (read_columns ps h)
      ∙ differing_ext k _ _ _ _ (λ j l. read_bit ps h a j ha l) (λ j l. read_bit ps h b j hb l)

pub plan_link_crosses : PlanLinkCrosses
unfolding PlanLinkCrosses
plan_link_crosses ps i h l =
    let w = plan_wiring ps in
    let acc = read_accepted ps h in
    let m = in_get_or w.links i (link 0 0) l in
    let crosses = crosses_link_column w acc (link_at w i) m in
    let ends = link_inside w acc.rack (link_at w i) m in
    record {
      inside = rw (read_columns ps h) crosses.inside;
      numbered = crosses.numbered;
      there = read_differing ps h _ _ ends.0 ends.1 ∙ crosses.there;
      back = read_differing ps h _ _ ends.1 ends.0 ∙ crosses.back;
    }
