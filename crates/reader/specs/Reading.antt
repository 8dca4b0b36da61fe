-- What reading a plan answers. Assumes nothing: these are definitions.
use Rattle.std.specs.Prelude.{◌≡◌, cond, List, [], ℕ, ◌+◌, leb, eqb, take, drop, Result, Ok, Err}
use Rattle.std.specs.Borrow.{Bor}
use Rattle.rack.specs.Buffers.{SliceIs}
use Rattle.rack.specs.PlanFile.{plan_cards, plan_links, plan_columns, address_size, address_start, Sized}
use Rattle.rack.specs.Refused.{refusal_of}
use Rattle.rack.specs.declared.refused.Refused.{Refused}
use Rattle.rack.specs.declared.views.Plan.{Plan}
use Rattle.reader.specs.Plan.{layout_holds, plan_refusal}

-- a refusal's number, 0 for none, and with 0 a plan's three sizes
pub record Sizes : Type 0 where
  pub number : ℕ
  pub cards : ℕ
  pub links : ℕ
  pub columns : ℕ

-- a refusal's number and zeros
abbrev pub no_sizes : (refused : ℕ) → Sizes
no_sizes refused = record { number = refused; cards = 0; links = 0; columns = 0 }

-- what a call answers that gives a plan with its sizes
abbrev pub sizes_of : Result Plan Refused → Sizes
sizes_of (Ok p) = record { number = 0; cards = p.cards; links = p.links; columns = p.columns }
sizes_of (Err e) = no_sizes (refusal_of e).number

-- the sizes of a plan that passed 12
abbrev pub LaidOut : List ℕ → Sizes → Type 0
LaidOut ps s = Sized ps s.cards s.links s.columns

-- a number, and with 0 the plan's three sizes, else zeros
pub record SizesSay (ps : List ℕ) (refused : ℕ) (r : Sizes) : Type 0 where
  pub number : r.number ≡ refused
  pub cards : r.cards ≡ cond (eqb refused 0) (plan_cards ps) 0
  pub links : r.links ≡ cond (eqb refused 0) (plan_links ps) 0
  pub columns : r.columns ≡ cond (eqb refused 0) (plan_columns ps) 0

-- 12 or 0; 12, 13 or 0
unfoldable pub layout_refusal : List ℕ → ℕ
layout_refusal ps = cond (layout_holds ps) 0 12

abbrev pub LayoutSays : List ℕ → Sizes → Type 0
LayoutSays ps r = SizesSay ps (layout_refusal ps) r

abbrev pub ReadSays : List ℕ → Sizes → Type 0
ReadSays ps r = SizesSay ps (plan_refusal ps) r

-- a refusal that comes before it, then 14: the card number is n or more
unfoldable pub card_refusal : (before n : ℕ) → (card : ℕ) → ℕ
card_refusal x n c = cond (eqb x 0) (cond (leb n c) 14 0) x

-- a card's address as a part of the plan's bytes, and how far behind the first of them it begins; with a refusal none, from the first on
unfoldable pub part_unless : (refused : ℕ) → List ℕ → (card : ℕ) → List ℕ
part_unless x ps c = cond (eqb x 0) (take (address_size (plan_columns ps)) (drop (address_start ps c) ps)) []

unfoldable pub offset_unless : (refused : ℕ) → List ℕ → (card : ℕ) → ℕ
offset_unless x ps c = cond (eqb x 0) (address_start ps c) 0

-- "A card's address is handed out as that part of the plan's own bytes" (docs/REQUIREMENTS.md): of those of a plan that begins at this place
abbrev pub PartIs : (refused : ℕ) (ps : List ℕ) (at : ℕ × ℕ) (card : ℕ) → Bor (List ℕ) → Type 0
PartIs x ps at c r = SliceIs (at.0, offset_unless x ps c + at.1) (part_unless x ps c) r

-- 12, 13, 14
unfoldable pub address_refusal : List ℕ → (card : ℕ) → ℕ
address_refusal ps c = card_refusal (plan_refusal ps) (plan_cards ps) c

abbrev pub address_part : List ℕ → (card : ℕ) → List ℕ
address_part ps c = part_unless (address_refusal ps c) ps c

abbrev pub AddressSays : (ps : List ℕ) (at : ℕ × ℕ) (card : ℕ) → Bor (List ℕ) → Type 0
AddressSays ps at c r = PartIs (address_refusal ps c) ps at c r
