-- A look at a reader, in numbers.
use Rattle.refusals.specs.declared.Refusal.{Refusal}
use Rattle.look.specs.declared.Sight.{Sight}
use Rattle.std.specs.Prelude.{ℕ, Bool, Result, Ok, Err}
use Rattle.look.specs.declared.Buffer.{Buffer}
use Rattle.look.specs.declared.Buffer.TheVariants.{Neither, Gathering, Addresses}
use Rattle.look.specs.declared.Place.{Place}
use Rattle.look.specs.declared.Place.TheVariants.{Between, InType, InLength, InValue}
use Rattle.reader_answers.specs.declared.sight.LookAnswer.{LookAnswer}
use Rattle.reader_words.specs.Numbers.{bit_of}

unfoldable pub buffer_number : Buffer → ℕ
buffer_number Neither = 0
buffer_number Gathering = 1
buffer_number Addresses = 2

abbrev pub look_numbers : Bool → ℕ → ℕ → ℕ → ℕ → ℕ → ℕ → ℕ → LookAnswer
look_numbers finished limit field ctype n to_come gathered buffer =
    record { refusal = 0; finished = bit_of finished; datagram_limit = limit; field = field; capsule_type = ctype; length = n; to_come = to_come; gathered = gathered; buffer = buffer }

unfoldable pub sight_answer : Bool → ℕ → Place → LookAnswer
sight_answer finished limit Between = look_numbers finished limit 0 0 0 0 0 0
sight_answer finished limit InType = look_numbers finished limit 1 0 0 0 0 0
sight_answer finished limit (InLength t) = look_numbers finished limit 2 t 0 0 0 0
sight_answer finished limit (InValue t n to_come gathered buffer) = look_numbers finished limit 3 t n to_come gathered (buffer_number buffer)

unfoldable pub looked_answer : Result Sight Refusal → LookAnswer
looked_answer (Err why) = record { refusal = why.0; finished = 0; datagram_limit = 0; field = 0; capsule_type = 0; length = 0; to_come = 0; gathered = 0; buffer = 0 }
looked_answer (Ok s) = sight_answer s.finished s.limit s.place
