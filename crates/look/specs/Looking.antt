-- What a look at a reader says, by the reader's state.
use Rattle.refusals.specs.declared.Refusal.{Refusal}
use Rattle.std.specs.Prelude.{ℕ, ◌-◌, cond, eqb, Result, Ok, Err}
use Rattle.refusals.specs.Numbers.{unmakeable_state}
use Rattle.opening.specs.declared.Opening.{Opening}
use Rattle.planning.specs.declared.Phase.{Phase}
use Rattle.planning.specs.declared.Phase.TheVariants as phase
use Rattle.capsule.specs.declared.reader.Reader.{Reader}
use Rattle.opening.specs.Kinds.{extent_of, gathers, keeps}
use Rattle.capsule.specs.Reader.{is_makeable}
use Rattle.look.specs.declared.Buffer.{Buffer}
use Rattle.look.specs.declared.Buffer.TheVariants.{Neither, Gathering, Addresses}
use Rattle.look.specs.declared.Place.{Place}
use Rattle.look.specs.declared.Place.TheVariants.{Between, InType, InLength, InValue}
use Rattle.look.specs.declared.Sight.{Sight}

-- the buffer that the value of a capsule of type t and length n is stored in
unfoldable pub buffer_of : Opening → ℕ → ℕ → Buffer
buffer_of op t n = cond (gathers op t n) Gathering (cond (keeps op t n) Addresses Neither)

-- of a value of which so many bytes came, the bytes that are stored
unfoldable pub stored_in : Buffer → ℕ → ℕ
stored_in Neither came = 0
stored_in Gathering came = came
stored_in Addresses came = came

unfoldable pub place_of : Opening → Phase → Place
place_of op (phase.InType part) = cond (eqb part.have 0) Between InType
place_of op (phase.InLength t part) = InLength t
place_of op (phase.InValue t n left) = InValue t n left (stored_in (buffer_of op t n) (extent_of op t n - left)) (buffer_of op t n)

unfoldable pub sight_of : Reader → Sight
sight_of r = record { finished = r.finished; limit = r.opening.limit; place = place_of r.opening r.phase }

-- refusal 1 alone; a finished reader is answered
unfoldable pub look_of : Reader → Result Sight Refusal
look_of r = cond (is_makeable r) (Ok (sight_of r)) (Err unmakeable_state)
