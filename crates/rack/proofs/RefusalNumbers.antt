-- No refusal has the number 0, and one without a place carries 0 in its stead. Assumes nothing.
use mathlib.Core.Path.{◌≡◌}
use mathlib.Core.Logic.{◌≢◌}
use Rattle.std.proofs.Common.{rules}
use Rattle.std.specs.Option.{unwrap_or}
use Rattle.rack.specs.Refused.{place_of, refusal_of}
use Rattle.rack.specs.declared.refused.Refused.{Refused}

pub refusal_numbered : (e : Refused) → (refusal_of e).number ≢ 0
refusal_numbered e = search rules

pub place_or_0 : (e : Refused) → unwrap_or (place_of e) 0 ≡ (refusal_of e).at
place_or_0 e = search rules
