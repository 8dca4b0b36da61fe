-- A well-formed, connected rack is accepted exactly if it has an embedding; else it is refused with 10 or 11. Assumes nothing.
use mathlib.Core.Path.{◌≡◌, refl, ◌∙◌}
use mathlib.Core.Bool.{Bool, true, false, cond}
use mathlib.Core.Logic.{◌⊎◌, inl, inr, ⊎_elim, ◌≢◌}
use Prim.Native.Nat.{ℕ, ◌<◌}
use native.Mathlib.Omega.{arith}
use lib.Dec.{eqb}
use borrow.Author.Tests.{eq-eqb, ne_eqb}
use Rattle.rack.specs.Wiring.{Wiring, link, link_count, link_at}
use Rattle.rack.specs.Hops.{hops, connected, unreached}
use Rattle.rack.specs.Columns.{column_count, address, Embedding, embeds}
use Rattle.rack.specs.Refusals.{refusal, or_else, lowest_fault, reach_refusal, parity_refusal, embedding_refusal, rack_refusal}
use Rattle.rack.proofs.Logic.{by_bool, by_eq}
use Rattle.rack.proofs.Lists.{in_get_or}
use Rattle.rack.proofs.Crossing.{Rack, ends_differ}
use Rattle.rack.proofs.Uniqueness.{addresses_embed}
use Rattle.rack.proofs.Parity.{parity_clear}
use Rattle.rack.proofs.Refusals.{or_else_clear, or_else_first, or_else_second, lowest_fault_none, lowest_fault_number, embeds_embedding, embedding_embeds}

-- a link whose ends have equal hops from card 0
abbrev pub LevelLink : Wiring → Type 0
LevelLink w = (i : ℕ) × (i < link_count w) × (hops w 0 (link_at w i).first ≡ hops w 0 (link_at w i).second)

module _ (w : Wiring) where
  -- 9
  pub reach_clear : (reach_refusal w).number ≡ 0 → connected w ≡ true
  unfolding reach_refusal
  reach_clear h = by_bool (connected w) (λ e. e) (λ (e : connected w ≡ false). let k = rw e at h in absurd (omega arith))

  pub connected_refusal : connected w ≡ true → rack_refusal w ≡ or_else (parity_refusal w) (embedding_refusal w)
  unfolding rack_refusal reach_refusal
  connected_refusal h = rw h (or_else_second (refusal 0 0) (or_else (parity_refusal w) (embedding_refusal w)) refl)

  pub unconnected_refusal : connected w ≡ false → rack_refusal w ≡ refusal 9 (unreached w)
  unfolding rack_refusal reach_refusal
  unconnected_refusal h = rw h (or_else_first (refusal 9 (unreached w)) (or_else (parity_refusal w) (embedding_refusal w)) (λ e. omega arith))

  -- 10
  parity_number : ((parity_refusal w).number ≡ 0) ⊎ (((parity_refusal w).number ≡ 10) × LevelLink w)
  unfolding parity_refusal
  parity_number = ⊎_elim (λ e. inl e) level (lowest_fault_number (link_count w) fault)
    where
      fault : ℕ → ℕ
      fault i = cond (eqb (hops w 0 (link_at w i).first) (hops w 0 (link_at w i).second)) 10 0

      level : (i : ℕ) × (i < link_count w) × ((lowest_fault (link_count w) fault).number ≡ fault i) × (fault i ≢ 0)
          → ((lowest_fault (link_count w) fault).number ≡ 0) ⊎ (((lowest_fault (link_count w) fault).number ≡ 10) × LevelLink w)
      level (i, l, e, n) =
          by_eq (hops w 0 (link_at w i).first) (hops w 0 (link_at w i).second)
          (λ f. inr (e ∙ rw (eq-eqb (hops w 0 (link_at w i).first) (hops w 0 (link_at w i).second) f) refl, (i, l, f)))
          (λ f. absurd (n (rw (ne_eqb (hops w 0 (link_at w i).first) (hops w 0 (link_at w i).second) f) refl)))

  embedding_parity : Rack w → (k : ℕ) (r : ℕ → ℕ → Bool) → Embedding w k r → parity_refusal w ≡ refusal 0 0
  unfolding parity_refusal
  embedding_parity rack k r m =
      lowest_fault_none (link_count w) (λ i. cond (eqb (hops w 0 (link_at w i).first) (hops w 0 (link_at w i).second)) 10 0)
      (λ i h. rw (ne_eqb (hops w 0 (link_at w i).first) (hops w 0 (link_at w i).second)
      (ends_differ w k r m rack (link_at w i) (in_get_or w.links i (link 0 0) h))) refl)

  -- 11
  embedding_clear : (embedding_refusal w).number ≡ 0 → Embedding w (column_count w) (address w)
  unfolding embedding_refusal
  embedding_clear h =
      by_bool (embeds w (column_count w) (address w)) (embeds_embedding w (column_count w) (address w))
      (λ (e : embeds w (column_count w) (address w) ≡ false). let k = rw e at h in absurd (omega arith))

  embedding_number : ((embedding_refusal w).number ≡ 0) ⊎ ((embedding_refusal w).number ≡ 11)
  unfolding embedding_refusal
  embedding_number =
      by_bool (embeds w (column_count w) (address w))
      (λ (e : embeds w (column_count w) (address w) ≡ true). inl (rw e refl))
      (λ (e : embeds w (column_count w) (address w) ≡ false). inr (rw e refl))

  -- ACCEPTED
  pub accepted_embedding : (rack_refusal w).number ≡ 0 → (connected w ≡ true) × Embedding w (column_count w) (address w)
  unfolding rack_refusal
  accepted_embedding h =
      let a = or_else_clear (reach_refusal w) (or_else (parity_refusal w) (embedding_refusal w)) h in
      let b = or_else_clear (parity_refusal w) (embedding_refusal w) a.1 in
      (reach_clear a.0, embedding_clear b.1)

  pub embedding_accepted : Rack w → (k : ℕ) (r : ℕ → ℕ → Bool) → Embedding w k r → rack_refusal w ≡ refusal 0 0
  unfolding embedding_refusal
  embedding_accepted rack k r m =
      connected_refusal rack.whole
      ∙ or_else_second (parity_refusal w) (embedding_refusal w) (rw (embedding_parity rack k r m) refl)
      ∙ rw (embedding_embeds w (column_count w) (address w) (addresses_embed w rack k r m)) refl

  pub connected_number : connected w ≡ true → ((rack_refusal w).number ≡ 0) ⊎ (((rack_refusal w).number ≡ 10) ⊎ ((rack_refusal w).number ≡ 11))
  connected_number c = rw (connected_refusal c) (⊎_elim later earlier parity_number)
    where
      Number : ℕ → Type 0
      Number v = (or_else (parity_refusal w) (embedding_refusal w)).number ≡ v

      later : (parity_refusal w).number ≡ 0 → Number 0 ⊎ (Number 10 ⊎ Number 11)
      later e = rw (or_else_second (parity_refusal w) (embedding_refusal w) e) (⊎_elim (λ f. inl f) (λ f. inr (inr f)) embedding_number)

      earlier : ((parity_refusal w).number ≡ 10) × LevelLink w → Number 0 ⊎ (Number 10 ⊎ Number 11)
      earlier (e, l) = inr (inl (rw (or_else_first (parity_refusal w) (embedding_refusal w) (λ z. omega arith)) e))

  -- 10 comes before 11, and is said of a link with level ends
  pub ten_level : connected w ≡ true → (rack_refusal w).number ≡ 10 → LevelLink w
  ten_level c h = ⊎_elim (λ e. absurd (later e)) (λ r. r.1) parity_number
    where
      later : (parity_refusal w).number ≡ 0 → ⊥
      later e =
          let k = rw (connected_refusal c, or_else_second (parity_refusal w) (embedding_refusal w) e) at h in
          ⊎_elim (λ f. omega arith) (λ f. omega arith) embedding_number

  pub level_ten : connected w ≡ true → LevelLink w → (rack_refusal w).number ≡ 10
  level_ten c (i, l, e) =
      ⊎_elim (λ z. absurd (parity_clear w z i l e))
      (λ r. rw (connected_refusal c, or_else_first (parity_refusal w) (embedding_refusal w) (λ z. omega (arith, r.0))) r.0) parity_number
