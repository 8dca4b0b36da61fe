-- A rack with a last card on a last link is accepted exactly if it is without them. Assumes nothing.
use mathlib.Core.Path.{◌≡◌, refl, ap, ◌∙◌}
use mathlib.Core.Bool.{true}
use mathlib.Core.Logic.{inl, inr}
use mathlib.Core.List.{List, [], ◌∷◌}
use Prim.Native.Nat.{ℕ, suc, ◌≤◌, ◌<◌}
use native.Mathlib.Omega.{arith}
use lib.ListN.{length, get_or, take, length-append, get_or-append}
use lib.Seq.{take-length, get_or_at, take-append-le}
use Rattle.rack.specs.Lists.{count}
use Rattle.rack.specs.Wiring.{Link, Wiring, link, link_count, link_at, joins}
use Rattle.rack.specs.Hops.{connected}
use Rattle.rack.specs.Columns.{column_count, address, Embedding}
use Rattle.rack.specs.Refusals.{most_parallel, refusal, links_refusal, rack_refusal, wiring_refusal}
use Rattle.rack.specs.Promises.{LinksJoin}
use Rattle.rack.proofs.Logic.{not_true_false, by_lt}
use Rattle.rack.proofs.Lists.{none_count, in_get_or}
use Rattle.rack.proofs.Paths.{Ends, joins_ends}
use Rattle.rack.proofs.Crossing.{Rack}
use Rattle.rack.proofs.Refusals.{JoinsCards, or_else_clear, or_else_second}
use Rattle.rack.proofs.Acceptance.{accepted_embedding, embedding_accepted}
use Rattle.rack.proofs.Promises.{links_join}
use Rattle.pendant.proofs.Hops.{Pendant, all_join, connected_removed, rack_added, rack_removed}
use Rattle.pendant.proofs.Addresses.{embedding_added, embedding_removed}

-- A RACK that is accepted where another is: its links are, and it is a rack and its addresses measure hops where those of the other do
acceptance_carried : (u v : Wiring) → ((links_refusal u).number ≡ 0 → (links_refusal v).number ≡ 0) → (connected u ≡ true → Rack v)
    → (connected u ≡ true → Embedding u (column_count u) (address u) → Embedding v (column_count v) (address v))
    → (wiring_refusal u).number ≡ 0 → (wiring_refusal v).number ≡ 0
unfolding wiring_refusal
acceptance_carried u v links rack embedding h =
    let p = or_else_clear (links_refusal u) (rack_refusal u) h in
    let a = accepted_embedding u p.1 in
    let e : rack_refusal v ≡ refusal 0 0 = embedding_accepted v (rack a.0) (column_count v) (address v) (embedding a.0 a.1) in
    rw (or_else_second (links_refusal v) (rack_refusal v) (links p.0), e) refl

module _ {w : Wiring} {c : ℕ} {v : Wiring} (pd : Pendant w c v) where
  abbrev n : ℕ
  n = w.cards

  abbrev m : ℕ
  m = link_count w

  -- THE LINKS by number
  pub count_links : link_count v ≡ suc m
  count_links = ap length pd.links ∙ omega (arith, length-append w.links (pd.last ∷ []))

  pub link_before : (i : ℕ) → i < m → link_at v i ≡ link_at w i
  link_before i h = ap (λ (ls : List Link). get_or ls i (link 0 0)) pd.links ∙ get_or-append w.links (pd.last ∷ []) (link 0 0) i h

  pub link_last : link_at v m ≡ pd.last
  link_last = ap (λ (ls : List Link). get_or ls m (link 0 0)) pd.links ∙ get_or_at w.links pd.last [] (link 0 0) m refl

  pub take_before : (i : ℕ) → i ≤ m → take i v.links ≡ take i w.links
  take_before i h = ap (take i) pd.links ∙ take-append-le i w.links (pd.last ∷ []) h

  -- 6 TO 8: no link of w joins the last link's ends
  no_parallel : count (joins pd.last.first pd.last.second) w.links ≡ 0
  no_parallel =
      let p = pd.last.first in
      let q = pd.last.second in
      none_count (joins p q) w.links (λ l i. not_true_false (joins p q l) (λ t. go l (pd.joined l i) pd.ends (joins_ends p q l t)))
    where
      go : (l : Link) → JoinsCards w l → Ends n c pd.last → Ends pd.last.first pd.last.second l → ⊥
      go l j (inl e) (inl f) = omega (arith, j.0, e.0, f.0)
      go l j (inl e) (inr f) = omega (arith, j.1, e.0, f.1)
      go l j (inr e) (inl f) = omega (arith, j.1, e.1, f.1)
      go l j (inr e) (inr f) = omega (arith, j.0, e.1, f.0)

  abbrev Few : Wiring → (i : ℕ) → Type 0
  Few u i = count (joins (link_at u i).first (link_at u i).second) (take i u.links) < most_parallel

  links_added : (links_refusal w).number ≡ 0 → (links_refusal v).number ≡ 0
  unfolding LinksJoin
  links_added h = (links_join v).1 (λ i l. let j = all_join pd (link_at v i) (in_get_or v.links i (link 0 0) l) in (j.0, j.1, j.2, few i l))
    where
      few : (i : ℕ) → i < link_count v → Few v i
      few i l =
          by_lt i m
          (λ k. rw (link_before i k, take_before i (omega arith)) ((links_join w).0 h i k).3)
          (λ k. let e : i ≡ m = omega (arith, count_links) in
          rw (e, link_last, take_before m (omega arith), take-length w.links, no_parallel) (omega arith))

  links_removed : (links_refusal v).number ≡ 0 → (links_refusal w).number ≡ 0
  unfolding LinksJoin
  links_removed h = (links_join w).1 (λ i l. let j = pd.joined (link_at w i) (in_get_or w.links i (link 0 0) l) in (j.0, j.1, j.2, few i l))
    where
      few : (i : ℕ) → i < m → Few w i
      few i l = let k = ((links_join v).0 h i (omega (arith, count_links))).3 in rw (link_before i l, take_before i (omega arith)) at k

  -- ACCEPTED with the card exactly if without it
  pub accepted_added : (wiring_refusal w).number ≡ 0 → (wiring_refusal v).number ≡ 0
  accepted_added = acceptance_carried w v links_added (rack_added pd) (embedding_added pd)

  pub accepted_removed : (wiring_refusal v).number ≡ 0 → (wiring_refusal w).number ≡ 0
  accepted_removed = acceptance_carried v w links_removed (rack_removed pd) (λ whole. embedding_removed pd (connected_removed pd whole))
