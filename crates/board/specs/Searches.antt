-- Serves the search of a board kept in a local alone (src/searching.rt): its cache, where it looks. Assumes nothing.
use Rattle.std.specs.Prelude.{ℕ, min, cond, ◌&&◌, ltb}
use Rattle.barcode.specs.declared.Issuer.{Issuer}
use Rattle.board.specs.declared.Lane.{Lane}
use Rattle.board.specs.declared.SearchRange.{SearchRange}
use Rattle.board.specs.Lanes.{most_lanes, is_lane_of}

-- the entries of the cache; an issuer's is its number's remainder
abbrev pub cache_length : ℕ
cache_length = 256

-- over at once if the guess is in use and the lane seen there is the issuer's, else over all lanes in use
unfoldable pub search_range_of : Issuer → ℕ → Lane → ℕ → SearchRange
search_range_of i guess seen used =
    cond (ltb guess used && is_lane_of i seen)
    (record { from = guess; to = guess })
    (record { from = 0; to = min used most_lanes })
