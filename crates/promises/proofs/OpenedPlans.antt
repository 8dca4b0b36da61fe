-- The promises of racks with a card more or less, of the sum of hops and of opened plans, each proved. The first parts of the list are Promises.antt
-- and PlanCalls.antt. Assumes nothing.
use Rattle.pendant.specs.Promises.{HopsAdded, ColumnsAdded, AddressesAdded, AddedAccepted, TakenOffAccepted, HangsMeans, TakenOffRestores}
use Rattle.pendant.proofs.Promises as pendant
use Rattle.totals.specs.Promises.{TotalByColumns, TotalAdded, TotalRemoved, TotalFits, ChainTotal}
use Rattle.totals.proofs.Promises as totals
use Rattle.last_card.specs.Promises.{AddRefused, TakeOffRefused, RefusalsKeep, AddedIsRead, TakenOffIsRead}
use Rattle.last_card.specs.Promises.{AddedAsWritten, TakenOffAsWritten, AddedTotal, TakenOffTotal, TakingOffUndoes}
use Rattle.last_card.proofs.Promises as last_card
use Rattle.opened.specs.Promises.{CarriesExactly, OpeningWhole, RefusedOpeningEmpty, RefusedOpening, OtherSizes, OtherSum, SumUnseen}
use Rattle.opened.specs.Promises.{OpenedFrameArrives, OpenedStepAsBytes, OpenedWalkAsBytes, OpenedConferenceAsBytes, OpenedChangeAsBytes, ChangedOpens}
use Rattle.opened.specs.Promises.{OpenedAddressAsBytes, OpenedAddressRefused}
use Rattle.opened.proofs.Promises as opened

-- with a card more on a last link: hops, columns and addresses
pub hops_added : HopsAdded
hops_added = pendant.hops_added

pub columns_added : ColumnsAdded
columns_added = pendant.columns_added

pub addresses_added : AddressesAdded
addresses_added = pendant.addresses_added

-- such a rack is accepted, and so is the one without a last card that hangs on the last link
pub added_accepted : AddedAccepted
added_accepted = pendant.added_accepted

pub taken_off_accepted : TakenOffAccepted
taken_off_accepted = pendant.taken_off_accepted

-- a last card hangs on the last link where that is its one link; a card added does, and without it the wiring is the old one
pub hangs_means : HangsMeans
hangs_means = pendant.hangs_means

pub taken_off_restores : TakenOffRestores
taken_off_restores = pendant.taken_off_restores

-- the sum of hops over all pairs: by columns, ones times zeros; it fits 32 bits; of a chain
pub total_by_columns : TotalByColumns
total_by_columns = totals.total_by_columns

pub total_fits : TotalFits
total_fits = totals.total_fits

pub chain_total : ChainTotal
chain_total = totals.chain_total

-- with a card more it rises by n and by the given card's hops to all cards, both of the old rack, and without the last card it falls by as much
pub total_added : TotalAdded
total_added = totals.total_added

pub total_removed : TotalRemoved
total_removed = totals.total_removed

-- a card more: 13 for another sum, 14 before 16, behind the plan's own numbers; the last card taken off: 17
pub add_refused : AddRefused
add_refused = last_card.add_refused

pub take_off_refused : TakeOffRefused
take_off_refused = last_card.take_off_refused

-- with every refusal the lent bytes stay, and no length and no sum is given
pub refusals_keep : RefusalsKeep
refusals_keep = last_card.refusals_keep

-- the new plan is read, with the changed wiring inside, whose sum is the one given
pub added_is_read : AddedIsRead
added_is_read = last_card.added_is_read

pub taken_off_is_read : TakenOffIsRead
taken_off_is_read = last_card.taken_off_is_read

-- it is what the plan writer leaves for the changed wiring's file
pub added_as_written : AddedAsWritten
added_as_written = last_card.added_as_written

pub taken_off_as_written : TakenOffAsWritten
taken_off_as_written = last_card.taken_off_as_written

-- the sum given is the old one, raised or lowered as the rack's is
pub added_total : AddedTotal
added_total = last_card.added_total

pub taken_off_total : TakenOffTotal
taken_off_total = last_card.taken_off_total

-- taking off undoes adding: the old bytes and the old sum
pub taking_off_undoes : TakingOffUndoes
taking_off_undoes = last_card.taking_off_undoes

-- an opened plan's calls see its bytes exactly if they have a layout and the sizes carried are those in them
pub carries_exactly : CarriesExactly
carries_exactly = opened.carries_exactly

-- an opening that was not refused carries its bytes, their sizes and their sum
pub opening_whole : OpeningWhole
opening_whole = opened.opening_whole

-- a refused opening has no bytes, no sizes and no sum, and is 12 in every call
pub refused_opening_empty : RefusedOpeningEmpty
refused_opening_empty = opened.refused_opening_empty

pub refused_opening : RefusedOpening
refused_opening = opened.refused_opening

-- so are sizes that differ from those in the bytes
pub other_sizes : OtherSizes
other_sizes = opened.other_sizes

-- another sum is 13 in the calls that test 13; steps and walks do not look at it
pub other_sum : OtherSum
other_sum = opened.other_sum

pub sum_unseen : SumUnseen
sum_unseen = opened.sum_unseen

-- every frame on an opened plan that was read arrives by the fewest links
pub opened_frame_arrives : OpenedFrameArrives
opened_frame_arrives = opened.opened_frame_arrives

-- a step and a walk on an opened plan answer as on its bytes, with their columns
pub opened_step_as_bytes : OpenedStepAsBytes
opened_step_as_bytes = opened.opened_step_as_bytes

pub opened_walk_as_bytes : OpenedWalkAsBytes
opened_walk_as_bytes = opened.opened_walk_as_bytes

-- three cards of an opened plan that was read get the answer of its bytes
pub opened_conference_as_bytes : OpenedConferenceAsBytes
opened_conference_as_bytes = opened.opened_conference_as_bytes

-- a card more, and the last card taken off, are answered as on its bytes; opening what is left finds the sum that was given
pub opened_change_as_bytes : OpenedChangeAsBytes
opened_change_as_bytes = opened.opened_change_as_bytes

pub changed_opens : ChangedOpens
changed_opens = opened.changed_opens

-- an address is that part of the bytes that were opened, or empty
pub opened_address_as_bytes : OpenedAddressAsBytes
opened_address_as_bytes = opened.opened_address_as_bytes

pub opened_address_refused : OpenedAddressRefused
opened_address_refused = opened.opened_address_refused
