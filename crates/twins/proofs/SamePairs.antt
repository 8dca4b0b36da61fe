-- Racks with the same pairs of cards linked: the same hops, the same number from 9 to 11, the same columns where they are accepted. Assumes nothing.
use mathlib.Core.Path.{◌≡◌, refl, sym, ap, ◌∙◌, subst}
use mathlib.Core.Bool.{Bool, true, false}
use mathlib.Core.Logic.{◌⊎◌, inl, inr}
use Prim.Native.Nat.{ℕ, zero, suc}
use native.Mathlib.Omega.{arith}
use lib.Dec.{eqb}
use lib.ListN.{length}
use Rattle.rack.specs.Lists.{lowest}
use Rattle.rack.specs.Wiring.{Link, Wiring, link, link_at}
use Rattle.rack.specs.Hops.{has_path, hops, unreached, connected}
use Rattle.rack.specs.Columns.{column_count, address, Embedding}
use Rattle.rack.specs.Embeddings.{reduced_columns, times}
use Rattle.rack.specs.Refusals.{Refusal, well_formed, rack_refusal}
use Rattle.rack.specs.Promises.{EmbeddingUnique}
use Rattle.rack.proofs.Logic.{by_bool, equal_if_both}
use Rattle.rack.proofs.Lists.{in_get_or, get_or_in}
use Rattle.rack.proofs.Tables.{lowest_ext}
use Rattle.rack.proofs.Paths.{Ends, linked_link, link_joins, path_next, next_path, path_here, path_zero}
use Rattle.rack.proofs.Refusals.{well_formed_rack}
use Rattle.rack.proofs.Acceptance.{LevelLink, unconnected_refusal, accepted_embedding, embedding_accepted, connected_number, ten_level, level_ten}
use Rattle.rack.proofs.Promises.{embedding_unique}
use Rattle.twins.specs.Promises.{SamePairs, TwinsKeepHops, TwinsKeepNumber, TwinsKeepColumns}

pairs_back : (v w : Wiring) → SamePairs v w → SamePairs w v
pairs_back v w s = (sym s.0, λ a b. sym (s.1 a b))

-- HOPS
path_carried : (v w : Wiring) → SamePairs v w → (k a b : ℕ) → has_path v k a b ≡ true → has_path w k a b ≡ true
path_carried v w s zero a b p = rw (path_zero v a b p) (path_here w b)
path_carried v w s (suc k) a b p =
    let r = path_next v k a b p in
    next_path w k a b (r.0, omega (arith, r.1, s.0), sym (s.1 a r.0) ∙ r.2, path_carried v w s k r.0 b r.3)

pub twins_keep_hops : TwinsKeepHops
unfolding TwinsKeepHops hops
twins_keep_hops v w s a b =
    lowest_ext v.cards (λ k. has_path v k a b) (λ k. has_path w k a b)
    (λ k h. equal_if_both (has_path v k a b) (has_path w k a b) (path_carried v w s k a b) (path_carried w v (pairs_back v w s) k a b))
    ∙ ap (λ (n : ℕ). lowest n (λ k. has_path w k a b)) s.0

unreached_same : (v w : Wiring) → SamePairs v w → unreached v ≡ unreached w
unfolding unreached TwinsKeepHops
unreached_same v w s =
    lowest_ext v.cards (λ c. eqb (hops v 0 c) v.cards) (λ c. eqb (hops w 0 c) w.cards)
    (λ c h. rw (twins_keep_hops v w s 0 c, s.0) refl)
    ∙ ap (λ (n : ℕ). lowest n (λ c. eqb (hops w 0 c) w.cards)) s.0

connected_same : (v w : Wiring) → SamePairs v w → connected v ≡ connected w
unfolding connected
connected_same v w s = rw (unreached_same v w s, s.0) refl

-- WHAT IS SAID, carried over from the one to the other
module _ (v w : Wiring) (s : SamePairs v w) where
  embedding_carried : (k : ℕ) (r : ℕ → ℕ → Bool) → Embedding v k r → Embedding w k r
  unfolding TwinsKeepHops
  embedding_carried k r e a b ha hb = e a b (omega (arith, s.0)) (omega (arith, s.0)) ∙ twins_keep_hops v w s a b

  level_carried : LevelLink v → LevelLink w
  unfolding TwinsKeepHops
  level_carried (i, l, e) =
      let k = link_at v i in
      let joined = sym (s.1 k.first k.second) ∙ link_joins v k (in_get_or v.links i (link 0 0) l) in
      let r = linked_link w k.first k.second joined in
      let at = get_or_in w.links (link 0 0) r.0 r.1 in
      let level = sym (twins_keep_hops v w s 0 k.first) ∙ e ∙ twins_keep_hops v w s 0 k.second in
      (at.0, at.1, subst (λ (j : Link). hops w 0 j.first ≡ hops w 0 j.second) (sym at.2) (either r.0 k level r.2))
    where
      either : (j k : Link) → hops w 0 k.first ≡ hops w 0 k.second → Ends k.first k.second j → hops w 0 j.first ≡ hops w 0 j.second
      either j k e (inl f) = rw (f.0, f.1) e
      either j k e (inr f) = rw (f.0, f.1) (sym e)

  module _ (formed : well_formed w ≡ true) (whole : connected v ≡ true) where
    connected_carried : connected w ≡ true
    connected_carried = sym (connected_same v w s) ∙ whole

    accepted_carried : (rack_refusal v).number ≡ 0 → (rack_refusal w).number ≡ 0
    accepted_carried z =
        rw (embedding_accepted w (well_formed_rack w formed connected_carried) (column_count v) (address v)
        (embedding_carried (column_count v) (address v) (accepted_embedding v z).1)) refl

    odd_carried : (rack_refusal v).number ≡ 10 → (rack_refusal w).number ≡ 10
    odd_carried t = level_ten w connected_carried (level_carried (ten_level v whole t))

-- a connected rack's number is 0, 10 or 11; the first two are carried over both ways, and so the third
same_number : (v w : Wiring) → SamePairs v w → well_formed v ≡ true → well_formed w ≡ true → connected v ≡ true → (rack_refusal v).number ≡ (rack_refusal w).number
same_number v w s fv fw c = go (connected_number v c) (connected_number w d)
  where
    back : SamePairs w v
    back = pairs_back v w s

    d : connected w ≡ true
    d = connected_carried v w s fw c

    Number : Wiring → ℕ → Type 0
    Number u x = (rack_refusal u).number ≡ x

    go : Number v 0 ⊎ (Number v 10 ⊎ Number v 11) → Number w 0 ⊎ (Number w 10 ⊎ Number w 11) → (rack_refusal v).number ≡ (rack_refusal w).number
    go (inl z) k = z ∙ sym (accepted_carried v w s fw c z)
    go (inr (inl t)) k = t ∙ sym (odd_carried v w s fw c t)
    go (inr (inr e)) (inl z) = accepted_carried w v back fv d z ∙ sym z
    go (inr (inr e)) (inr (inl t)) = odd_carried w v back fv d t ∙ sym t
    go (inr (inr e)) (inr (inr f)) = e ∙ sym f

pub twins_keep_number : TwinsKeepNumber
unfolding TwinsKeepNumber
twins_keep_number v w s fv fw = (by_bool (connected v) (same_number v w s fv fw) (λ f. ap (λ (r : Refusal). r.number) (apart f)), apart)
  where
    apart : connected v ≡ false → rack_refusal v ≡ rack_refusal w
    apart f = rw (unconnected_refusal v f, unconnected_refusal w (sym (connected_same v w s) ∙ f), unreached_same v w s) refl

pub twins_keep_columns : TwinsKeepColumns
unfolding TwinsKeepColumns EmbeddingUnique
twins_keep_columns v w s fv fw z =
    let a = accepted_embedding v z in
    let k = column_count v in
    let r = address v in
    let ours = embedding_unique v k r fv a.0 a.1 in
    let theirs = embedding_unique w k r fw (connected_carried v w s fw a.0) (embedding_carried v w s k r a.1) in (
      sym ours.0 ∙ ap (λ (n : ℕ). length (reduced_columns n k r)) s.0 ∙ theirs.0,
      λ c. sym (ours.1 c) ∙ ap (λ (n : ℕ). times c (reduced_columns n k r)) s.0 ∙ theirs.1 c,
    )
