-- What holds of every reader, whatever its role, limit, draft setting and opting in (document 01, "Capsule streams"). Each claim is proved in the file
-- given, under its name in lower case with dashes.
use Rattle.capsule.specs.declared.reader.Ending.TheVariants.{Clean, Truncated}
use Rattle.capsule.specs.Reader.{taking}
use Rattle.std.specs.Prelude.{◌≡◌, ◌↔◌, ◌⊎◌, ℕ, ◌≤◌, ◌<◌, Bool, true, false, List, [], ◌∷◌, ◌++◌, length, take, drop, Option, Some, None, Ok, Err}
use Rattle.refusals.specs.declared.Refusal.{Refusal}
use Rattle.refusals.specs.Numbers.{unmakeable_state}
use Rattle.wire.specs.Bytes.{Bytes}
use Rattle.opening.specs.declared.Role.{Role}
use Rattle.opening.specs.declared.Role.TheVariants.{Endpoint, Intermediary}
use Rattle.opening.specs.declared.Kind.TheVariants as kind
use Rattle.opening.specs.declared.Opening.{Opening}
use Rattle.opening.specs.declared.Report.{Report}
use Rattle.opening.specs.declared.Report.TheVariants.{Delivered, Dropped, Skipped, Passed, AddressDelivered, Malformed}
use Rattle.capsule.specs.declared.reader.Reader.{Reader}
use Rattle.capsule.specs.Grammar.{Stage, in_type, in_length, in_value, Capsule}
use Rattle.opening.specs.Kinds.{kind_of, finishes, length_of}
use Rattle.capsule.specs.Calls.{Lent, Call, feed, close, fed, closed, run, finishes_in}
use Rattle.capsule.specs.Book.{parts_for, reported, forwarded, Book, new_book, book_verdict, book_call, Taken, append, end_of}
use Rattle.capsule.specs.State.{reader_of, of_book}
use Rattle.capsule.specs.Reader.{opening, open_of, is_opening, feed_of, close_of, reader_call}
use Rattle.capsule_laws.specs.Claims.{AllBytes, consumed_in, NoneIs, HandedOn, LentWell, Stands}
use Rattle.capsule_laws.specs.AddressClaims.{IsAddress, IsDatagram}

-- ---- opening and closing (proofs/Arising.antt)

-- opening fixes the role, the limit and both settings as they were handed in, and nothing has come
pub record OpenedWith (role : Role) (limit : ℕ) (draft addresses : Bool) (r : Reader) : Type 0 where
  pub same_role : r.opening.role ≡ role
  pub same_limit : r.opening.limit ≡ limit
  pub same_draft : r.opening.draft ≡ draft
  pub same_addresses : r.opening.addresses ≡ addresses
  pub nothing_came : r ≡ reader_of r.opening [] false

abbrev pub OpenedAsNamed : Type 0
OpenedAsNamed =
    (role : Role) (limit : ℕ) (draft addresses : Bool) (r : Reader) → open_of role limit draft addresses ≡ Ok r → OpenedWith role limit draft addresses r

-- a refused close hands back the state; with `RefusedUnchanged` of a feeding
abbrev pub RefusedCloseUnchanged : Type 0
RefusedCloseUnchanged = (r : Reader) (why : Refusal) → (close_of r).answer ≡ Err why → (close_of r).reader ≡ r

-- ---- the table "What an ended capsule reports" (proofs/Reports.antt)

abbrev pub DatagramExactly : Type 0
DatagramExactly = (op : Opening) (t : ℕ) → (kind_of op t ≡ kind.Datagram) ↔ IsDatagram op t

-- delivered: a DATAGRAM of at most the limit, in either role
abbrev pub DeliveredExactly : Type 0
DeliveredExactly = (op : Opening) (c : Capsule) (n : ℕ) → (reported op c ≡ Delivered n) ↔ IsDatagram op c.ctype × (c.size ≡ n) × (n ≤ op.limit)

-- dropped: a longer one, in either role
abbrev pub DroppedExactly : Type 0
DroppedExactly = (op : Opening) (c : Capsule) (n : ℕ) → (reported op c ≡ Dropped n) ↔ IsDatagram op c.ctype × (c.size ≡ n) × (op.limit < n)

-- passed: any other type, of an intermediary
abbrev pub PassedExactly : Type 0
PassedExactly =
    (op : Opening) (c : Capsule) (t n : ℕ)
    → (reported op c ≡ Passed t n) ↔ (c.ctype ≡ t) × (c.size ≡ n) × (op.role ≡ Intermediary) × (IsDatagram op t → ⊥)

-- skipped: any other type, of an endpoint; but not an address capsule of one that opted in
abbrev pub SkippedExactly : Type 0
SkippedExactly =
    (op : Opening) (c : Capsule) (t n : ℕ)
    → (reported op c ≡ Skipped t n) ↔ (c.ctype ≡ t) × (c.size ≡ n) × (op.role ≡ Endpoint) × (IsDatagram op t → ⊥) × (IsAddress op t → ⊥)

-- a malformed capsule finishes the reader, and no other report does; with `MarkedExactly` that is the mark
abbrev pub FinishesExactly : Type 0
FinishesExactly =
    ((r : Report) → (finishes r ≡ true) ↔ ((t : ℕ) × (n : ℕ) × (r ≡ Malformed t n)))
    × ((e : Option Report) → (finishes_in e ≡ true) ↔ ((t : ℕ) × (n : ℕ) × (e ≡ Some (Malformed t n))))

-- ---- forwarded bytes (proofs/Reports.antt)

-- a capsule's bytes, if it is reported passed
unfoldable pub if_passed : Report → List ℕ → List ℕ
if_passed (Delivered n) bytes = []
if_passed (Dropped n) bytes = []
if_passed (Skipped t n) bytes = []
if_passed (Passed t n) bytes = bytes
if_passed (AddressDelivered t n) bytes = []
if_passed (Malformed t n) bytes = []

unfoldable pub passed_bytes : Opening → List Capsule → List ℕ
passed_bytes op [] = []
passed_bytes op (c ∷ cs) = if_passed (reported op c) c.bytes ++ passed_bytes op cs

-- the type of an unfinished capsule is complete, and is t
abbrev pub TypeComplete : Stage → ℕ → Type 0
TypeComplete in_type t = ⊥
TypeComplete (in_length t' head) t = t' ≡ t
TypeComplete (in_value t' n head) t = t' ≡ t

-- an intermediary's are all bytes of the capsules that are reported passed, then those of an unfinished one whose type is complete and no DATAGRAM's;
-- an endpoint has none
pub record Forwarding (op : Opening) (s : List ℕ) : Type 0 where
  pub tail : List ℕ
  pub bytes : forwarded op s ≡ passed_bytes op (parts_for op s).capsules ++ tail
  pub tail-forwarded : (t : ℕ) → op.role ≡ Intermediary → TypeComplete (parts_for op s).stage t → (IsDatagram op t → ⊥) → tail ≡ (parts_for op s).tail
  pub datagram_held : (t : ℕ) → TypeComplete (parts_for op s).stage t → IsDatagram op t → tail ≡ []
  pub type_held : (parts_for op s).stage ≡ in_type → tail ≡ []
  pub endpoint_none : op.role ≡ Endpoint → forwarded op s ≡ []

abbrev pub ForwardedExactly : Type 0
ForwardedExactly = (op : Opening) (s : List ℕ) → Forwarding op s

-- ---- what a feeding consumes, and how a close finds the stream (proofs/Consuming.antt)

-- all of the piece, where no capsule ends in it; or as many bytes as complete one capsule and leave no tail
pub record Consumes (op : Opening) (s p : List ℕ) (k : Taken) : Type 0 where
  pub stream : k.stream ≡ s ++ take k.consumed p
  pub within : k.consumed ≤ length p
  pub all : k.capsule ≡ None → (k.consumed ≡ length p) × ((parts_for op (s ++ p)).capsules ≡ (parts_for op s).capsules)
  pub first : (c : Capsule) → k.capsule ≡ Some c
      → (0 < k.consumed) × (parts_for op (s ++ take k.consumed p) ≡ record { capsules = (parts_for op s).capsules ++ (c ∷ []); tail = []; stage = in_type })

-- of the book, and so by `Demand3` of the reader
abbrev pub ConsumedExactly : Type 0
ConsumedExactly = (op : Opening) (s p : List ℕ) → Consumes op s p (append op s p)

-- clean exactly if the tail is empty
abbrev pub EndExactly : Type 0
EndExactly = (tail : List ℕ) → ((end_of tail ≡ Clean) ↔ (tail ≡ [])) × ((end_of tail ≡ Truncated) ↔ (tail ≡ [] → ⊥))

-- so of the book's own calls, and by `Demand3` of the reader's: a feeding that was accepted consumed all of the piece, and no capsule ended in it; or up to and
-- including the byte that ends the first one, which is the one that is reported
abbrev pub UpTo : Opening → List ℕ → List ℕ → ℕ → Option Report → Type 0
UpTo op s p consumed e =
    ((e ≡ None) × (consumed ≡ length p) × ((parts_for op (s ++ p)).capsules ≡ (parts_for op s).capsules))
    ⊎ ((c : Capsule) × (e ≡ Some (reported op c)) × (consumed ≤ length p)
    × (parts_for op (s ++ take consumed p) ≡ record { capsules = (parts_for op s).capsules ++ (c ∷ []); tail = []; stage = in_type }))

abbrev pub FedExactly : Type 0
FedExactly =
    (k : Book) (p : List ℕ) (b : Lent) (consumed written : ℕ) (w : List ℕ) (e : Option Report) (payload : List ℕ)
    → (book_call k (feed p b)).1 ≡ fed consumed written w e payload
    → UpTo k.opening k.stream p consumed e

-- its stream is the consumed bytes joined
abbrev pub StreamConsumed : Type 0
StreamConsumed = (op : Opening) (cs : List Call) → (run book_call (new_book op) cs).0.stream ≡ consumed_in cs (run book_call (new_book op) cs).1

-- and a close that is not refused answers clean exactly if the tail is empty, however long the stream is
abbrev pub ClosesExactly : Type 0
ClosesExactly =
    (k : Book) → k.mark ≡ false
    → let tail = (parts_for k.opening k.stream).tail in
    (tail ≡ [] → (book_call k close).1 ≡ closed Clean) × ((tail ≡ [] → ⊥) → (book_call k close).1 ≡ closed Truncated)

-- the length that a report tells
abbrev pub LengthTold : Type 0
LengthTold =
    (t n : ℕ)
    → (length_of (Delivered n) ≡ n) × (length_of (Dropped n) ≡ n) × (length_of (Skipped t n) ≡ n) × (length_of (Passed t n) ≡ n)
    × (length_of (AddressDelivered t n) ≡ n) × (length_of (Malformed t n) ≡ n)

-- ---- the output (proofs/Outputs.antt)

-- every accepted feeding, whatever is lent: the output keeps its length and every byte past the written ones; an endpoint writes nothing
pub record OutputKept (r : Reader) (p : List ℕ) (b : Lent) (written : ℕ) : Type 0 where
  pub same_length : length (feed_of r p b).buffers.output ≡ length b.output
  pub rest : drop written (feed_of r p b).buffers.output ≡ drop written b.output
  pub endpoint : r.opening.role ≡ Endpoint → (written ≡ 0) × ((feed_of r p b).buffers.output ≡ b.output)
  pub fits : written ≤ length b.output

abbrev pub OutputExactly : Type 0
OutputExactly =
    (r : Reader) (p : List ℕ) (b : Lent) (consumed written : ℕ) (e : Option Report)
    → (feed_of r p b).answer ≡ Ok (taking consumed written e)
    → OutputKept r p b written

-- ---- refusal 1 cannot arise from an opening, whatever is lent (proofs/Arising.antt)

abbrev pub ReaderNeverUnmakeable : Type 0
ReaderNeverUnmakeable =
    (role : Role) (limit : ℕ) (draft addresses : Bool) (r : Reader)
    → open_of role limit draft addresses ≡ Ok r
    → (cs : List Call)
    → AllBytes cs
    → NoneIs unmakeable_state (run reader_call r cs).1

-- ---- gathered value bytes stand at their places (proofs/Arising.antt)

-- one accepted feeding leaves the buffers with the value bytes gathered so far at their fronts, if it was lent them so
abbrev pub StandsAfter : Type 0
StandsAfter =
    (k : Book) (p : List ℕ) (b : Lent)
    → is_opening k.opening ≡ true
    → Bytes k.stream
    → Bytes p
    → book_verdict k p b ≡ (Ok tt)
    → Stands k b
    → Stands (book_call k (feed p b)).0 (feed_of (of_book k) p b).buffers

-- so in a list of calls that hands the buffers on, each accepted feeding finds them there
abbrev pub HandedOnStands : Type 0
HandedOnStands =
    (role : Role) (limit : ℕ) (draft addresses : Bool) (r : Reader)
    → open_of role limit draft addresses ≡ Ok r
    → (cs : List Call)
    → AllBytes cs
    → HandedOn None (new_book (opening role limit draft addresses)) r cs
    → LentWell (new_book (opening role limit draft addresses)) cs
