-- Pages without their stamps.
--     bytes_of_pages      the bytes of each page
use Rattle.std.specs.Prelude.{map}
use Rattle.std.specs.FinMap.{entries, from_sorted}
use Rattle.mdb_model.specs.Pages.{PageMap}
use Rattle.mdb_bytes.specs.Paged.{PageBytes}

-- the bytes of each page, without the stamps
abbrev pub bytes_of_pages : PageMap → PageBytes
bytes_of_pages pages = from_sorted (map (λ e. (e.0, e.1.bytes)) (entries pages))
