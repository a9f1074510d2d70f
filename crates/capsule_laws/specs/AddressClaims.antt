-- What holds of address capsules (RFC 9484; document 02, request 4) for every role, limit, draft setting and opting in. Proved in
-- proofs/Addresses.antt and proofs/Buffers.antt.
use Rattle.std.specs.Prelude.{◌≡◌, ◌↔◌, ◌⊎◌, ℕ, ◌+◌, ◌-◌, ◌≤◌, ◌<◌, Bool, true, false, cond, ◌&&◌, List, ◌++◌, length, take, drop, leb, Ok, Err}
use Rattle.std.proofs.lemmas.List.Edits.{sets}
use Rattle.refusals.specs.Numbers.{limit_too_large, addresses_too_short}
use Rattle.wire.specs.Bytes.{Bytes}
use Rattle.addresses.specs.Addresses.{well_formed}
use Rattle.opening.specs.declared.Role.{Role}
use Rattle.opening.specs.declared.Role.TheVariants.{Endpoint}
use Rattle.opening.specs.declared.Kind.TheVariants.{Address}
use Rattle.opening.specs.declared.Opening.{Opening}
use Rattle.opening.specs.declared.Report.TheVariants.{AddressDelivered, Malformed}
use Rattle.capsule.specs.declared.reader.Reader.{Reader}
use Rattle.capsule.specs.Grammar.{Extent, in_type, in_length, in_value, Front, part, whole, front_by, Capsule}
use Rattle.opening.specs.Kinds.{kind_of, extent_of, gathers, keeps}
use Rattle.capsule.specs.Calls.{Lent}
use Rattle.capsule.specs.Book.{parts_for, reported}
use Rattle.capsule.specs.State.{reader_of}
use Rattle.capsule.specs.Reader.{opening, fresh, open_of, is_makeable, verdict_of, feed_of}
use Rattle.capsule_laws.specs.Before as before

-- types 1, 2 and 3, of an endpoint that opted in
abbrev pub IsAddress : Opening → ℕ → Type 0
IsAddress op t = (op.role ≡ Endpoint) × (op.addresses ≡ true) × (1 ≤ t) × (t ≤ 3)

abbrev pub AddressExactly : Type 0
AddressExactly = (op : Opening) (t : ℕ) → (kind_of op t ≡ Address) ↔ IsAddress op t

-- complete with its length field if it is longer than 1,024, any other capsule with all of its value
pub record CompleteAt (op : Opening) (t n : ℕ) : Type 0 where
  pub too_long : IsAddress op t → 1024 < n → extent_of op t n ≡ 0
  pub all : (IsAddress op t → n ≤ 1024) → extent_of op t n ≡ n

abbrev pub CompleteExactly : Type 0
CompleteExactly = (op : Opening) (t n : ℕ) → CompleteAt op t n

-- a malformed capsule: an address capsule whose value is longer than 1,024 or not well formed
abbrev pub MalformedExactly : Type 0
MalformedExactly =
    (op : Opening) (c : Capsule) (t n : ℕ)
    → (reported op c ≡ Malformed t n) ↔ (c.ctype ≡ t) × (c.size ≡ n) × IsAddress op t × (leb n 1024 && well_formed t c.value ≡ false)

abbrev pub AddressDeliveredExactly : Type 0
AddressDeliveredExactly =
    (op : Opening) (c : Capsule) (t n : ℕ)
    → (reported op c ≡ AddressDelivered t n) ↔ (c.ctype ≡ t) × (c.size ≡ n) × IsAddress op t × (leb n 1024 && well_formed t c.value ≡ true)

-- refusal 18: by lengths, role and opting in alone, and behind 1, 2 and 4
abbrev pub AddressesTooShortExactly : Type 0
AddressesTooShortExactly =
    (r : Reader) (p : List ℕ) (b : Lent)
    → ((feed_of r p b).answer ≡ Err addresses_too_short)
    ↔ (is_makeable r ≡ true)
    × (r.finished ≡ false)
    × (r.opening.limit ≤ length b.gathering)
    × (r.opening.role ≡ Endpoint)
    × (r.opening.addresses ≡ true)
    × (length b.addresses < 1024)

-- ---- the two buffers for values

-- a DATAGRAM, of any reader: type 0, and 0xff37a5 with the draft setting on
abbrev pub IsDatagram : Opening → ℕ → Type 0
IsDatagram op t = (t ≡ 0) ⊎ ((op.draft ≡ true) × (t ≡ 0xff37a5))

-- the gathering buffer is for DATAGRAM values within the limit alone, the second one for address values that are not too long
abbrev pub GathersExactly : Type 0
GathersExactly = (op : Opening) (t n : ℕ) → (gathers op t n ≡ true) ↔ IsDatagram op t × (n ≤ op.limit)

abbrev pub KeepsExactly : Type 0
KeepsExactly = (op : Opening) (t n : ℕ) → (keeps op t n ≡ true) ↔ IsAddress op t × (n ≤ 1024)

-- s is the unfinished tail and the piece joined, and `before` bytes of it are the tail: of the value of the capsule at its front the bytes that
-- come with the piece are stored, each at its own place
unfoldable pub stored_from : Extent → (ℕ → ℕ → Bool) → List ℕ → ℕ → ℕ → ℕ → ℕ → List ℕ → List ℕ
stored_from ext stores s before t n head buffer =
    let came = before - head in
    cond (stores t n) (sets buffer came (take (ext t n - came) (drop (head + came) s))) buffer

unfoldable pub stored_at : Extent → (ℕ → ℕ → Bool) → List ℕ → ℕ → Front → List ℕ → List ℕ
stored_at ext stores s before (part in_type) buffer = buffer
stored_at ext stores s before (part (in_length t head)) buffer = buffer
stored_at ext stores s before (part (in_value t n head)) buffer = stored_from ext stores s before t n head buffer
stored_at ext stores s before (whole t n head) buffer = stored_from ext stores s before t n head buffer

-- every accepted feeding of every state that opening, feeding and closing make (`MakeableExactly`), whatever is lent: no other byte of the two
-- buffers changes
pub record Stored (op : Opening) (s p : List ℕ) (b : Lent) : Type 0 where
  pub gathering : (feed_of (reader_of op s false) p b).buffers.gathering
      ≡ stored_at (extent_of op) (gathers op) ((parts_for op s).tail ++ p) (length (parts_for op s).tail) (front_by (extent_of op) ((parts_for op s).tail ++ p)) b.gathering
  pub addresses : (feed_of (reader_of op s false) p b).buffers.addresses
      ≡ stored_at (extent_of op) (keeps op) ((parts_for op s).tail ++ p) (length (parts_for op s).tail) (front_by (extent_of op) ((parts_for op s).tail ++ p)) b.addresses

abbrev pub BuffersExactly : Type 0
BuffersExactly =
    (op : Opening) (s p : List ℕ) (b : Lent)
    → Bytes s
    → verdict_of (reader_of op s false) (length p) (length b.gathering) (length b.addresses) (length b.output) ≡ (Ok tt)
    → Stored op s p b

-- ---- opening, and other types

-- refused 3 exactly above 65,535, whatever role and settings
pub record Opens (role : Role) (limit : ℕ) (draft addresses : Bool) : Type 0 where
  pub refused : 65535 < limit → open_of role limit draft addresses ≡ Err limit_too_large
  pub ready : limit ≤ 65535 → open_of role limit draft addresses ≡ Ok (fresh (opening role limit draft addresses))

abbrev pub OpenExactly : Type 0
OpenExactly = (role : Role) (limit : ℕ) (draft addresses : Bool) → Opens role limit draft addresses

-- any other type is to an endpoint that opted in what it was before
abbrev pub OthersAsBefore : Type 0
OthersAsBefore = (op : Opening) (t : ℕ) → (IsAddress op t → ⊥) → kind_of op t ≡ before.kind_of op t
