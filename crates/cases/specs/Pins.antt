-- Cases that fix a reading of documents 01 and 02 where no starred bench case does. One statement carries them: `Pinned`.
use Rattle.std.specs.Prelude.{◌≡◌, true, false, List, ◌++◌, map}
use Rattle.cases.specs.Pin.{Pin, got, expected, opted_in}
use Rattle.cases.specs.Wire.{on_the_wire}
use Rattle.cases.specs.Streams.{on_streams, unmakeable, both_refused}
use Rattle.cases.specs.Lists.{on_lists}
use Rattle.cases.specs.Addresses.{exchanges, answers_of, on_addresses}
use Rattle.cases.specs.Frames.{on_frames}
use Rattle.cases.specs.Writers.{on_writers}

abbrev pub pins : List Pin
pins =
    on_the_wire
    ++ on_streams
    ++ both_refused unmakeable
    ++ on_lists
    ++ answers_of (opted_in true) exchanges
    ++ answers_of (opted_in false) exchanges
    ++ on_addresses
    ++ on_frames
    ++ on_writers

abbrev pub Pinned : Type 0
Pinned = map got pins ≡ map expected pins
