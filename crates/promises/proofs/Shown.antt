-- What a decoded record shows, by computation of the table. Assumes nothing.
use mathlib.Core.Path.{refl}
use Rattle.decimal.specs.Bytes.{is_of}
use Rattle.decimal.specs.Numbers.{value_of, digits_of}
use Rattle.layout.specs.Layouts.{layout_of, table, row_at}
use Rattle.kinds.specs.Terms.{version_answer}
use Rattle.promises.specs.Shown.{RefusalsPointAtPlaces, RecordsShowTheirPlaces, PairsAreTheirPlaces, TariffIsBehindReceived}

pub refusals_point_at_places : RefusalsPointAtPlaces
unfolding row_at table layout_of version_answer
refusals_point_at_places = (refl, refl, refl, refl, refl, λ version none. rw none, refl, refl, refl, (refl, refl, refl), (refl, refl, refl))

pub records_show_their_places : RecordsShowTheirPlaces
unfolding row_at table layout_of
records_show_their_places agreed rec = (refl, refl, refl)

pub pairs_are_their_places : PairsAreTheirPlaces
unfolding row_at table layout_of
pairs_are_their_places rec = refl

pub tariff_is_behind_received : TariffIsBehindReceived
unfolding row_at table layout_of digits_of value_of is_of
tariff_is_behind_received = (refl, refl)
