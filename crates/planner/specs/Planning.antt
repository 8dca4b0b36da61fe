-- What planning and plan writing answer, and what they leave in the lent buffers. Assumes nothing: these are definitions.
use Rattle.std.specs.Prelude.{◌≡◌, Bool, true, ◌&&◌, cond, ◌⊎◌, ◌↔◌, List, ◌++◌, ℕ, ◌+◌, ◌*◌, ◌-◌, ◌≤◌, ◌<◌, ltb, eqb, length, replicate}
use Rattle.rack.specs.Lists.{tabulate, blocks}
use Rattle.rack.specs.Bits.{bits_value}
use Rattle.rack.specs.Limits.{lent_words, lent_hops, lent_plan, most_cards}
use Rattle.rack.specs.Wiring.{Wiring}
use Rattle.rack.specs.Hops.{hops, connected}
use Rattle.rack.specs.Columns.{column_count, address, Embedding}
use Rattle.rack.specs.Refusals.{Refusal, refusal}
use Rattle.rack.specs.WiringFile.{file_wiring, form_refusal, file_refusal}
use Rattle.rack.specs.Embeddings.{column_of, reduced_columns, times}
use Rattle.planner.specs.PlanBytes.{plan_bytes}
use Rattle.rack.specs.PlanFile.{plan_columns, plan_bit}
use Rattle.survey.specs.Tables.{cell}
use Rattle.rack.specs.Words.{word_bit}
use Rattle.planner.specs.Answer.{Answer}

-- four words a card; column j is bit j mod 64 of word j / 64
unfoldable pub card_words : (row : ℕ → Bool) → List ℕ
card_words row = tabulate 4 (λ t. bits_value 64 (λ i. row (64 * t + i)))

unfoldable pub all_words : Wiring → List ℕ
all_words w = blocks w.cards (λ c. card_words (address w c))

-- a row of 256 a card: hops at 256 times from plus to
unfoldable pub all_hops : Wiring → List ℕ
all_hops w = blocks w.cards (λ a. tabulate most_cards (λ b. cond (ltb b w.cards) (hops w a b) 0))

-- a lent buffer afterwards: with 1 nothing is touched, with another refusal it is zero throughout, else what is not used is zero
unfoldable pub left_in : (number : ℕ) → (new old : List ℕ) → List ℕ
left_in n new old = cond (eqb n 1) old (cond (eqb n 0) (new ++ replicate (length old - length new) 0) (replicate (length old) 0))

-- a number, a place, and with 0 a value, else 0
pub record AnswerIs (f : Refusal) (v : ℕ) (r : Answer) : Type 0 where
  pub number : r.number ≡ f.number
  pub at : r.at ≡ f.at
  pub value : r.value ≡ cond (eqb f.number 0) v 0

-- 1, then 2 to 11
unfoldable pub planning_refusal : List ℕ → (words hop_bytes : ℕ) → Refusal
planning_refusal bs a b = cond (eqb a lent_words && eqb b lent_hops) (file_refusal bs) (refusal 1 0)

-- planning: the column count, the addresses in the words, the hops in the bytes
pub record PlanSays (bs : List ℕ) (r : Answer) (words words_now hop_bytes hop_bytes_now : List ℕ) : Type 0 where
  pub answer : AnswerIs (planning_refusal bs (length words) (length hop_bytes)) (column_count (file_wiring bs)) r
  pub words_left : words_now ≡ left_in r.number (all_words (file_wiring bs)) words
  pub hops_left : hop_bytes_now ≡ left_in r.number (all_hops (file_wiring bs)) hop_bytes

unfoldable pub writing_refusal : List ℕ → (room : ℕ) → Refusal
writing_refusal bs n = cond (eqb n lent_plan) (file_refusal bs) (refusal 1 0)

-- the plan writer: the used length, the plan's bytes
pub record WriteSays (bs : List ℕ) (r : Answer) (output output_now : List ℕ) : Type 0 where
  pub answer : AnswerIs (writing_refusal bs (length output)) (length (plan_bytes (file_wiring bs))) r
  pub output_left : output_now ≡ left_in r.number (plan_bytes (file_wiring bs)) output

-- when demand 3 (docs/REQUIREMENTS.md) speaks of planning, and of plan writing: a well-formed, connected wiring, and lent buffers of their lengths
pub record Asked (bs words hop_bytes : List ℕ) : Type 0 where
  pub room : length words ≡ lent_words
  pub hop_room : length hop_bytes ≡ lent_hops
  -- none of 2 to 8 applies
  pub formed : (form_refusal bs).number ≡ 0
  pub whole : connected (file_wiring bs) ≡ true

pub record AskedToWrite (bs output : List ℕ) : Type 0 where
  pub room : length output ≡ lent_plan
  -- as in `Asked`
  pub formed : (form_refusal bs).number ≡ 0
  pub whole : connected (file_wiring bs) ≡ true

-- what is left of l columns, without those in which all cards agree and complemented where card 0 has 1, are "the planner's k columns in
-- some order, each once and no other"
pub record ReducesTo (n l : ℕ) (others : ℕ → ℕ → Bool) (k : ℕ) (rows : ℕ → ℕ → Bool) : Type 0 where
  pub count : length (reduced_columns n l others) ≡ k
  pub same : (c : List Bool) → times c (reduced_columns n l others) ≡ times c (tabulate k (column_of n rows))
  pub once : (c : List Bool) → times c (tabulate k (column_of n rows)) ≤ 1

-- 10 or 11 exactly if there is no embedding; with 0 the k columns are one, and every embedding reduces to them
pub record Found (w : Wiring) (number k : ℕ) (rows : ℕ → ℕ → Bool) : Type 0 where
  pub none : ((number ≡ 10) ⊎ (number ≡ 11)) ↔ ((l : ℕ) (others : ℕ → ℕ → Bool) → Embedding w l others → ⊥)
  pub embedding : number ≡ 0 → Embedding w k rows
  pub unique : (l : ℕ) (others : ℕ → ℕ → Bool) → Embedding w l others → (number ≡ 0) × ReducesTo w.cards l others k rows

-- what planning has found, read from the lent words; the lent bytes hold the hops
pub record AddressesFound (w : Wiring) (r : Answer) (words hop_bytes : List ℕ) : Type 0 where
  pub addresses : Found w r.number r.value (word_bit words)
  pub measured : r.number ≡ 0 → (a b : ℕ) → a < w.cards → b < w.cards → cell hop_bytes a b ≡ hops w a b

-- what plan writing has found, read back from the bytes of the plan
abbrev pub PlanFound : Wiring → Answer → (plan : List ℕ) → Type 0
PlanFound w r plan = Found w r.number (plan_columns plan) (plan_bit plan)
