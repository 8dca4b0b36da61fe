-- The number of each refusal, the link or card that it carries, and how it is printed. Assumes nothing: these are definitions.
use Rattle.std.specs.Prelude.{◌≡◌, ℕ, List, [], ◌++◌, Option, None, Some, Result, Ok, Err, codes}
use Rattle.std.specs.Fmt.{decimal}
use Rattle.rack.specs.Refusals.{Refusal, refusal}
use Rattle.rack.specs.declared.refused.Refused.{Refused}
use Rattle.rack.specs.declared.refused.Refused.TheVariants.{Lent, NoSizes, Cards, Links, Length, NoEnd, OneCard, Parallel, Unreached, OddLoop, NoAddresses, Layout, Content, NoCard, Full, Largest, NotLast, NoCaller, NoFrame}

abbrev pub refusal_of : Refused → Refusal
refusal_of Lent = refusal 1 0
refusal_of NoSizes = refusal 2 0
refusal_of Cards = refusal 3 0
refusal_of Links = refusal 4 0
refusal_of Length = refusal 5 0
refusal_of (NoEnd i) = refusal 6 i
refusal_of (OneCard i) = refusal 7 i
refusal_of (Parallel i) = refusal 8 i
refusal_of (Unreached c) = refusal 9 c
refusal_of (OddLoop i) = refusal 10 i
refusal_of NoAddresses = refusal 11 0
refusal_of Layout = refusal 12 0
refusal_of Content = refusal 13 0
refusal_of NoCard = refusal 14 0
refusal_of Full = refusal 15 0
refusal_of Largest = refusal 16 0
refusal_of NotLast = refusal 17 0
refusal_of NoCaller = refusal 18 0
refusal_of NoFrame = refusal 19 0

-- the number of what a call answers, 0 where it does not refuse
abbrev pub number_of : {A : Type 0} → Result A Refused → ℕ
number_of (Ok x) = 0
number_of (Err e) = (refusal_of e).number

-- a call refuses with this refusal, or, where its number is 0, does not refuse
abbrev pub RefusesWith : {A : Type 0} → Refusal → Result A Refused → Type 0
RefusesWith f (Ok x) = f.number ≡ 0
RefusesWith f (Err e) = f ≡ refusal_of e

-- the link or card in fault, where a refusal carries one
abbrev pub place_of : Refused → Option ℕ
place_of (NoEnd i) = Some i
place_of (OneCard i) = Some i
place_of (Parallel i) = Some i
place_of (Unreached c) = Some c
place_of (OddLoop i) = Some i
place_of e = None

-- as it is printed: 6, 7, 8 and 10 name a link, 9 a card
abbrev pub place_words : Refused → List ℕ
place_words (NoEnd i) = codes " link " ++ decimal i
place_words (OneCard i) = codes " link " ++ decimal i
place_words (Parallel i) = codes " link " ++ decimal i
place_words (OddLoop i) = codes " link " ++ decimal i
place_words (Unreached c) = codes " card " ++ decimal c
place_words e = []

abbrev pub refused_words : Refused → List ℕ
refused_words e = codes "refused " ++ decimal (refusal_of e).number ++ place_words e
