-- What holds of a look. Each claim is a type here, and is proved in proofs/ under the name given.
use Rattle.std.specs.Prelude.{◌≡◌, ◌↔◌, ℕ, ◌-◌, ◌≤◌, ◌<◌, Bool, true, List, [], ◌∷◌, ◌++◌, length, drop, Result, Ok, Err}
use Rattle.refusals.specs.declared.Refusal.{Refusal}
use Rattle.refusals.specs.Numbers.{unmakeable_state}
use Rattle.wire.specs.Bytes.{Bytes}
use Rattle.opening.specs.declared.Opening.{Opening}
use Rattle.capsule.specs.declared.reader.Reader.{Reader}
use Rattle.capsule.specs.Grammar.{Stage, in_type, in_length, in_value, Capsule, Parts}
use Rattle.capsule.specs.Book.{parts_for}
use Rattle.capsule.specs.State.{reader_of}
use Rattle.capsule.specs.Reader.{is_opening}
use Rattle.capsule_laws.specs.Claims.{Makes}
use Rattle.capsule_laws.specs.AddressClaims.{IsAddress, IsDatagram}
use Rattle.look.specs.declared.Buffer.{Buffer}
use Rattle.look.specs.declared.Buffer.TheVariants as buffer
use Rattle.look.specs.declared.Place.{Place}
use Rattle.look.specs.declared.Place.TheVariants.{Between, InType, InLength, InValue}
use Rattle.look.specs.declared.Sight.{Sight}
use Rattle.look.specs.Looking.{buffer_of, stored_in, look_of}

-- ---- what is told is the grammar's (proofs/Streams.antt)

-- of a tail that is not empty; in a value, `head` bytes of it are the type and the length, and the others came of the value
unfoldable pub within_at : Opening → List ℕ → Stage → Place
within_at op r in_type = InType
within_at op r (in_length t head) = InLength t
within_at op r (in_value t n head) =
    let came = length (drop head r) in InValue t n (n - came) (stored_in (buffer_of op t n) came) (buffer_of op t n)

-- between capsules exactly if the tail is empty
unfoldable pub place_at : Opening → List ℕ → Stage → Place
place_at op [] x = Between
place_at op (b ∷ r) x = within_at op (b ∷ r) x

unfoldable pub place_in : Opening → Parts → Place
place_in op p = place_at op p.tail p.stage

-- for every accepted opening and every stream of bytes, whatever the mark
abbrev pub LookOfStream : Type 0
LookOfStream =
    (op : Opening) (s : List ℕ) (mark : Bool)
    → is_opening op ≡ true
    → Bytes s
    → look_of (reader_of op s mark) ≡ Ok (record { finished = mark; limit = op.limit; place = place_in op (parts_for op s) })

-- ---- the buffer of a value (proofs/States.antt)

-- the gathering buffer for a DATAGRAM within the limit, the second one for an address value that is not too long, neither for any other
pub record BufferOf (op : Opening) (t n : ℕ) : Type 0 where
  pub gathering : (buffer_of op t n ≡ buffer.Gathering) ↔ IsDatagram op t × (n ≤ op.limit)
  pub addresses : (buffer_of op t n ≡ buffer.Addresses) ↔ IsAddress op t × (n ≤ 1024)
  pub neither : (buffer_of op t n ≡ buffer.Neither) ↔ (IsDatagram op t × (n ≤ op.limit) → ⊥) × (IsAddress op t × (n ≤ 1024) → ⊥)

abbrev pub BufferExactly : Type 0
BufferExactly = (op : Opening) (t n : ℕ) → BufferOf op t n

-- all bytes that came are stored, where the value has a buffer
abbrev pub StoredExactly : Type 0
StoredExactly =
    (came : ℕ) → (stored_in buffer.Neither came ≡ 0) × (stored_in buffer.Gathering came ≡ came) × (stored_in buffer.Addresses came ≡ came)

-- ---- bytes to come (proofs/Completing.antt)

-- whatever the bytes of x are: fewer of them complete no capsule, and just so many complete one, of that type and length, and leave no tail
pub record Completes (op : Opening) (s : List ℕ) (t n left : ℕ) : Type 0 where
  pub some_byte : 0 < left
  pub none_by_fewer : (x : List ℕ) → length x < left → (parts_for op (s ++ x)).capsules ≡ (parts_for op s).capsules
  pub one_by_all :
      (x : List ℕ)
      → length x ≡ left
      → (c : Capsule) × (c.ctype ≡ t) × (c.size ≡ n) × (parts_for op (s ++ x) ≡ record { capsules = (parts_for op s).capsules ++ (c ∷ []); tail = []; stage = in_type })

abbrev pub ToComeCompletes : Type 0
ToComeCompletes =
    (op : Opening) (s : List ℕ) (mark : Bool) (sight : Sight) (t n left gathered : ℕ) (buffer : Buffer)
    → look_of (reader_of op s mark) ≡ Ok sight
    → sight.place ≡ InValue t n left gathered buffer
    → Completes op s t n left

-- ---- of every state (proofs/States.antt)

-- refusal 1 alone, and exactly for what no accepted opening and no calls make
abbrev pub RefusedExactly : Type 0
RefusedExactly = (r : Reader) (why : Refusal) → (look_of r ≡ Err why) ↔ ((why ≡ unmakeable_state) × (Makes r → ⊥))

-- the mark is told, and changes nothing else that is told
unfoldable pub marked : Bool → Reader → Reader
marked mark r = record { opening = r.opening; phase = r.phase; finished = mark }

unfoldable pub seen_marked : Bool → Result Sight Refusal → Result Sight Refusal
seen_marked mark (Err why) = Err why
seen_marked mark (Ok sight) = Ok (record { finished = mark; limit = sight.limit; place = sight.place })

abbrev pub FinishedSeen : Type 0
FinishedSeen = (r : Reader) (mark : Bool) → look_of (marked mark r) ≡ seen_marked mark (look_of r)
