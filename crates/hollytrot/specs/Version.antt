-- The version of the library as one number: major * 1000000 + minor * 1000 + patch. docs/check-version compares it with
-- the file VERSION. Assumes nothing.
use Rattle.std.specs.Prelude.{ℕ}

abbrev pub library_version : ℕ
library_version = 8000
