-- What holds of grammar, book and reader. Each claim is a type here, and is proved in proofs/ under the name given.
use Rattle.capsule.specs.Reader.{taking}
use Rattle.std.specs.Prelude.{◌≡◌, ◌↔◌, ℕ, ◌-◌, ◌≤◌, ◌<◌, Bool, true, false, ◌||◌, List, [], ◌∷◌, ◌++◌, map, length, take, drop, Some, None, Result, Ok, Err}
use Rattle.std.specs.Prelude.{Option}
use Rattle.refusals.specs.declared.Refusal.{Refusal}
use Rattle.refusals.specs.Numbers.{unmakeable_state, finished}
use Rattle.wire.specs.Bytes.{Bytes}
use Rattle.opening.specs.declared.Role.{Role}
use Rattle.opening.specs.declared.Opening.{Opening}
use Rattle.opening.specs.declared.Report.{Report}
use Rattle.opening.specs.declared.Report.TheVariants as report
use Rattle.capsule.specs.declared.reader.Reader.{Reader}
use Rattle.capsule.specs.Grammar.{Extent, Stage, in_type, in_length, in_value, part, whole, front_by, Capsule, parts_by, parts}
use Rattle.opening.specs.Kinds.{opted, extent_of, finishes, gathers, keeps}
use Rattle.capsule.specs.Calls.{Lent, lent, Call, feed, close, Reply, refused, fed, closed, run, finishes_in}
use Rattle.capsule.specs.Book.{parts_for, forwarded, reported, Book, new_book, book_verdict, book_call}
use Rattle.capsule.specs.State.{reader_of, of_book}
use Rattle.capsule.specs.Reader.{opening, open_of, is_makeable, feeding, feed_of, close_of, reader_call}
use Rattle.capsule_laws.specs.Before as before

-- ---- the grammar (proofs/Grammar.antt)

unfoldable pub joined : List Capsule → List ℕ
joined [] = []
joined (c ∷ cs) = c.bytes ++ joined cs

-- the bytes of a complete capsule read as its type, its length and its value, with nothing left over
abbrev pub ReadsAs : Extent → Capsule → Type 0
ReadsAs ext c =
    (head : ℕ) × (front_by ext c.bytes ≡ whole c.ctype c.size head) × (c.value ≡ drop head c.bytes) × (length c.value ≡ ext c.ctype c.size)

abbrev pub AllRead : Extent → List Capsule → Type 0
AllRead ext [] = Unit {0}
AllRead ext (c ∷ cs) = ReadsAs ext c × AllRead ext cs

-- nothing is lost, and the split is the grammar's: no complete capsule stands at the tail's front, and each capsule reads as itself
pub record SplitOf (ext : Extent) (s : List ℕ) : Type 0 where
  pub nothing_lost : joined (parts_by ext s).capsules ++ (parts_by ext s).tail ≡ s
  pub tail_unfinished : front_by ext (parts_by ext s).tail ≡ part (parts_by ext s).stage
  pub capsules_read : AllRead ext (parts_by ext s).capsules

-- of document 01's grammar and of what the book reads for any opening
abbrev pub SplitRight : Type 0
SplitRight = (ext : Extent) (s : List ℕ) → SplitOf ext s

-- ---- the book's reading and the grammar's (proofs/Plain.antt)

-- the book waits for all of each value but that of an address capsule that is too long
abbrev pub Short : Opening → ℕ → ℕ → Type 0
Short op t n = extent_of op t n ≡ n

abbrev pub ShortStage : Opening → Stage → Type 0
ShortStage op in_type = Unit {0}
ShortStage op (in_length t head) = Unit {0}
ShortStage op (in_value t n head) = Short op t n

abbrev pub AllShort : Opening → List Capsule → Type 0
AllShort op [] = Unit {0}
AllShort op (c ∷ cs) = Short op c.ctype c.size × AllShort op cs

-- as long as no address capsule is too long, the book reads its stream by the grammar
abbrev pub ByTheGrammar : Type 0
ByTheGrammar = (op : Opening) (s : List ℕ) → AllShort op (parts s).capsules → ShortStage op (parts s).stage → parts_for op s ≡ parts s

-- and where one is, at the last byte of its length field, that one is complete: it is all of the grammar's tail, and its value is empty
abbrev pub StopsAtTooLong : Type 0
StopsAtTooLong =
    (op : Opening) (s : List ℕ) (t n : ℕ)
    → AllShort op (parts s).capsules
    → (parts s).stage ≡ in_value t n (length (parts s).tail)
    → extent_of op t n ≡ 0
    → parts_for op s ≡ record { capsules = (parts s).capsules ++ (record { ctype = t; size = n; value = []; bytes = (parts s).tail } ∷ []); tail = []; stage = in_type }

-- without an opting in always
abbrev pub NotOptedGrammar : Type 0
NotOptedGrammar = (op : Opening) (s : List ℕ) → opted op ≡ false → parts_for op s ≡ parts s

-- at most 7 bytes of a type are held (proofs/Grammar.antt)
abbrev pub HeldAtMostSeven : Type 0
HeldAtMostSeven = (ext : Extent) (s : List ℕ) → Bytes s → (parts_by ext s).stage ≡ in_type → length (parts_by ext s).tail ≤ 7

-- forwarded bytes are never taken back (proofs/Forwarding.antt)
abbrev pub ForwardedGrows : Type 0
ForwardedGrows = (op : Opening) (s x : List ℕ) → (w : List ℕ) × (forwarded op (s ++ x) ≡ forwarded op s ++ w)

-- ---- demand 3 (proofs/Lists.antt)

abbrev pub CallBytes : Call → Type 0
CallBytes (feed p b) = Bytes p
CallBytes close = Unit {0}

abbrev pub AllBytes : List Call → Type 0
AllBytes [] = Unit {0}
AllBytes (c ∷ cs) = CallBytes c × AllBytes cs

-- the book's answers and the state made from its stream are the reader's
abbrev pub Agrees : Opening → Reader → List Call → Type 0
Agrees op r cs = run reader_call r cs ≡ (of_book (run book_call (new_book op) cs).0, (run book_call (new_book op) cs).1)

-- each feeding that the book accepts is lent the two buffers for values as the last accepted one left them; the second one is asked for of
-- endpoints that opted in alone
abbrev pub Follows : Opening → Option Lent → Lent → Type 0
Follows op None b = Unit {0}
Follows op (Some l) b = (b.gathering ≡ l.gathering) × (opted op ≡ true → b.addresses ≡ l.addresses)

unfoldable pub left_by : (Result (Unit {0}) Refusal) → Option Lent → Lent → Option Lent
left_by (Ok tt) last b = Some b
left_by (Err r) last b = last

abbrev pub HandedOn : Option Lent → Book → Reader → List Call → Type 0
HandedOn last k r [] = Unit {0}
HandedOn last k r (feed p b ∷ cs) =
    (book_verdict k p b ≡ (Ok tt) → Follows k.opening last b)
    × HandedOn (left_by (book_verdict k p b) last (feed_of r p b).buffers) (book_call k (feed p b)).0 (reader_call r (feed p b)).0 cs
HandedOn last k r (close ∷ cs) = HandedOn last (book_call k close).0 (reader_call r close).0 cs

abbrev pub Demand3 : Type 0
Demand3 =
    (role : Role) (limit : ℕ) (draft addresses : Bool) (r : Reader)
    → open_of role limit draft addresses ≡ Ok r
    → (cs : List Call)
    → AllBytes cs
    → HandedOn None (new_book (opening role limit draft addresses)) r cs
    → Agrees (opening role limit draft addresses) r cs

-- the same for hosts that change the buffers between capsules: only the value bytes that were gathered have to stand at their fronts
abbrev pub StandsAt : (ℕ → ℕ → Bool) → List ℕ → Stage → List ℕ → Type 0
StandsAt stores r in_type g = Unit {0}
StandsAt stores r (in_length t head) g = Unit {0}
StandsAt stores r (in_value t n head) g = stores t n ≡ true → take (length r - head) g ≡ drop head r

abbrev pub StandsBy : (ℕ → ℕ → Bool) → Book → List ℕ → Type 0
StandsBy stores k g = StandsAt stores (parts_for k.opening k.stream).tail (parts_for k.opening k.stream).stage g

abbrev pub Stands : Book → Lent → Type 0
Stands k b = StandsBy (gathers k.opening) k b.gathering × StandsBy (keeps k.opening) k b.addresses

abbrev pub LentWell : Book → List Call → Type 0
LentWell k [] = Unit {0}
LentWell k (feed p b ∷ cs) = (book_verdict k p b ≡ (Ok tt) → Stands k b) × LentWell (book_call k (feed p b)).0 cs
LentWell k (close ∷ cs) = LentWell (book_call k close).0 cs

abbrev pub Demand3Standing : Type 0
Demand3Standing =
    (role : Role) (limit : ℕ) (draft addresses : Bool) (r : Reader)
    → open_of role limit draft addresses ≡ Ok r
    → (cs : List Call)
    → AllBytes cs
    → LentWell (new_book (opening role limit draft addresses)) cs
    → Agrees (opening role limit draft addresses) r cs

-- ---- the state alone: whatever the lent buffers hold, it is decided by the opening, the consumed bytes joined and whether the reader has
-- finished (proofs/States.antt)

unfoldable pub consumed_by : Call → Reply → List ℕ
consumed_by (feed p b) (refused r) = []
consumed_by (feed p b) (fed consumed written w e payload) = take consumed p
consumed_by (feed p b) (closed c) = []
consumed_by close x = []

unfoldable pub consumed_in : List Call → List Reply → List ℕ
consumed_in [] xs = []
consumed_in (c ∷ cs) [] = []
consumed_in (c ∷ cs) (x ∷ xs) = consumed_by c x ++ consumed_in cs xs

abbrev pub StateDecided : Type 0
StateDecided =
    (role : Role) (limit : ℕ) (draft addresses : Bool) (r : Reader)
    → open_of role limit draft addresses ≡ Ok r
    → (cs : List Call)
    → AllBytes cs
    → let after = run reader_call r cs in
    after.0 ≡ reader_of (opening role limit draft addresses) (consumed_in cs after.1) after.0.finished

-- against the book's mark, too, if the second buffer has at its front the bytes of the address value that is being gathered, for these
-- decide whether the reader is finished (proofs/Makeable.antt)
abbrev pub AddressesWell : Book → List Call → Type 0
AddressesWell k [] = Unit {0}
AddressesWell k (feed p b ∷ cs) = (book_verdict k p b ≡ (Ok tt) → StandsBy (keeps k.opening) k b.addresses) × AddressesWell (book_call k (feed p b)).0 cs
AddressesWell k (close ∷ cs) = AddressesWell (book_call k close).0 cs

abbrev pub StateOfBook : Type 0
StateOfBook =
    (role : Role) (limit : ℕ) (draft addresses : Bool) (r : Reader)
    → open_of role limit draft addresses ≡ Ok r
    → (cs : List Call)
    → AllBytes cs
    → AddressesWell (new_book (opening role limit draft addresses)) cs
    → (run reader_call r cs).0 ≡ of_book (run book_call (new_book (opening role limit draft addresses)) cs).0

-- and without an opting in whatever the lent buffers hold
abbrev pub StateOfPlainBook : Type 0
StateOfPlainBook =
    (role : Role) (limit : ℕ) (draft addresses : Bool) (r : Reader)
    → open_of role limit draft addresses ≡ Ok r
    → opted (opening role limit draft addresses) ≡ false
    → (cs : List Call)
    → AllBytes cs
    → (run reader_call r cs).0 ≡ of_book (run book_call (new_book (opening role limit draft addresses)) cs).0

-- ---- over the whole list (proofs/Lists.antt): with `Demand3`, of the reader's answers too

unfoldable pub reports_in : Option Report → List Report
reports_in None = []
reports_in (Some r) = r ∷ []

unfoldable pub reports : List Reply → List Report
reports [] = []
reports (refused r ∷ rs) = reports rs
reports (fed consumed written w e payload ∷ rs) = reports_in e ++ reports rs
reports (closed c ∷ rs) = reports rs

-- a delivered report has a payload
unfoldable pub if_delivered : Report → List ℕ → List (List ℕ)
if_delivered (report.Delivered n) payload = payload ∷ []
if_delivered (report.Dropped n) payload = []
if_delivered (report.Skipped t n) payload = []
if_delivered (report.Passed t n) payload = []
if_delivered (report.AddressDelivered t n) payload = []
if_delivered (report.Malformed t n) payload = []

-- and so has a delivered address capsule its value
unfoldable pub if_address : Report → List ℕ → List (List ℕ)
if_address (report.Delivered n) value = []
if_address (report.Dropped n) value = []
if_address (report.Skipped t n) value = []
if_address (report.Passed t n) value = []
if_address (report.AddressDelivered t n) value = value ∷ []
if_address (report.Malformed t n) value = []

-- what of a list of answers, and of a list of capsules, is wanted: `if_delivered` or `if_address`
abbrev pub Wanted : Type 0
Wanted = Report → List ℕ → List (List ℕ)

unfoldable pub values_in : Wanted → Option Report → List ℕ → List (List ℕ)
values_in want None payload = []
values_in want (Some r) payload = want r payload

unfoldable pub values : Wanted → List Reply → List (List ℕ)
values want [] = []
values want (refused r ∷ rs) = values want rs
values want (fed consumed written w e payload ∷ rs) = values_in want e payload ++ values want rs
values want (closed c ∷ rs) = values want rs

unfoldable pub writes : List Reply → List ℕ
writes [] = []
writes (refused r ∷ rs) = writes rs
writes (fed consumed written w e payload ∷ rs) = w ++ writes rs
writes (closed c ∷ rs) = writes rs

unfoldable pub delivered : Wanted → Opening → List Capsule → List (List ℕ)
delivered want op [] = []
delivered want op (c ∷ cs) = want (reported op c) c.value ++ delivered want op cs

-- reports, payloads and address values in order are those of the final stream's complete capsules, joined writes its forwarded bytes
pub record InOrder (op : Opening) (cs : List Call) : Type 0 where
  pub every_report : reports (run book_call (new_book op) cs).1 ≡ map (reported op) (parts_for op (run book_call (new_book op) cs).0.stream).capsules
  pub every-payload : values if_delivered (run book_call (new_book op) cs).1 ≡ delivered if_delivered op (parts_for op (run book_call (new_book op) cs).0.stream).capsules
  pub every-address : values if_address (run book_call (new_book op) cs).1 ≡ delivered if_address op (parts_for op (run book_call (new_book op) cs).0.stream).capsules
  pub every_write : writes (run book_call (new_book op) cs).1 ≡ forwarded op (run book_call (new_book op) cs).0.stream

abbrev pub WholeList : Type 0
WholeList = (op : Opening) (cs : List Call) → InOrder op cs

-- ---- the finished mark (proofs/Marks.antt)

-- a clean close sets it, and so does a malformed capsule
unfoldable pub marks_in : Reply → Bool
marks_in (refused r) = false
marks_in (fed consumed written w e payload) = finishes_in e
marks_in (closed c) = true

unfoldable pub any_marks : List Reply → Bool
any_marks [] = false
any_marks (x ∷ xs) = marks_in x || any_marks xs

abbrev pub AllFinished : List Reply → Type 0
AllFinished [] = Unit {0}
AllFinished (x ∷ xs) = (x ≡ refused finished) × AllFinished xs

abbrev pub NothingAfter : List Reply → Type 0
NothingAfter [] = Unit {0}
NothingAfter (x ∷ xs) = (marks_in x ≡ true → AllFinished xs) × NothingAfter xs

-- set exactly by those, and after it every call is refused with 2, so that nothing more is consumed; with `Demand3`, of the reader too
pub record Marked (op : Opening) (cs : List Call) : Type 0 where
  pub exactly : (run book_call (new_book op) cs).0.mark ≡ any_marks (run book_call (new_book op) cs).1
  pub nothing-after : NothingAfter (run book_call (new_book op) cs).1

abbrev pub MarkedExactly : Type 0
MarkedExactly = (op : Opening) (cs : List Call) → Marked op cs

-- as long as no malformed capsule was reported, the book has read its stream by document 01's grammar (proofs/Marks.antt)
abbrev pub NoneFinish : List Report → Type 0
NoneFinish [] = Unit {0}
NoneFinish (r ∷ rs) = (finishes r ≡ false) × NoneFinish rs

abbrev pub GrammarUnlessMalformed : Type 0
GrammarUnlessMalformed =
    (op : Opening) (cs : List Call)
    → NoneFinish (reports (run book_call (new_book op) cs).1)
    → parts_for op (run book_call (new_book op) cs).0.stream ≡ parts (run book_call (new_book op) cs).0.stream

abbrev pub UnmarkedGrammar : Type 0
UnmarkedGrammar =
    (op : Opening) (cs : List Call)
    → (run book_call (new_book op) cs).0.mark ≡ false
    → parts_for op (run book_call (new_book op) cs).0.stream ≡ parts (run book_call (new_book op) cs).0.stream

-- ---- refusals (proofs/Makeable.antt)

-- from an opening refusal 1 cannot arise
abbrev pub NoneIs : Refusal → List Reply → Type 0
NoneIs r [] = Unit {0}
NoneIs r (x ∷ xs) = (x ≡ refused r → ⊥) × NoneIs r xs

abbrev pub NeverUnmakeable : Type 0
NeverUnmakeable = (op : Opening) (cs : List Call) → NoneIs unmakeable_state (run book_call (new_book op) cs).1

-- refusal 1 exactly: a state is accepted if and only if some accepted opening and some calls make it
pub record Makes (r : Reader) : Type 0 where
  pub role : Role
  pub limit : ℕ
  pub draft : Bool
  pub addresses : Bool
  pub start : Reader
  pub opens : open_of role limit draft addresses ≡ Ok start
  pub calls : List Call
  pub bytes : AllBytes calls
  pub makes : (run reader_call start calls).0 ≡ r

abbrev pub MakeableExactly : Type 0
MakeableExactly = (r : Reader) → (is_makeable r ≡ true) ↔ Makes r

-- a feeding leaves no state that cannot be made (proofs/Makeable.antt)
abbrev pub StaysMakeable : Type 0
StaysMakeable = (r : Reader) (p : List ℕ) (b : Lent) → Bytes p → is_makeable r ≡ true → is_makeable (feed_of r p b).reader ≡ true

-- a refused feeding hands back the state and leaves the buffers (proofs/Makeable.antt)
abbrev pub RefusedUnchanged : Type 0
RefusedUnchanged =
    (r : Reader) (p : List ℕ) (b : Lent) (why : Refusal)
    → (feed_of r p b).answer ≡ Err why
    → ((feed_of r p b).reader ≡ r) × ((feed_of r p b).buffers ≡ b)

-- an accepted piece that is not empty loses at least one byte (proofs/Makeable.antt)
abbrev pub Progress : Type 0
Progress =
    (r : Reader) (p : List ℕ) (b : Lent) (consumed written : ℕ) (e : Option Report)
    → Bytes p
    → 0 < length p
    → (feed_of r p b).answer ≡ Ok (taking consumed written e)
    → 0 < consumed

-- ---- a reader that takes no address capsules, since it did not opt in or is an intermediary's (proofs/NotOpted.antt): as before request 4, and
-- the second buffer, whatever it is, is as it was

abbrev pub AsBefore : Type 0
AsBefore =
    (r : Reader) (p : List ℕ) (b : Lent)
    → opted r.opening ≡ false
    → feed_of r p b ≡ (let f = before.feed_of r p b.gathering b.output in feeding f.reader f.answer (lent f.gathering b.addresses f.output))

abbrev pub ClosesAsBefore : Type 0
ClosesAsBefore = (r : Reader) → opted r.opening ≡ false → close_of r ≡ before.close_of r

-- any list of calls, on any state, with any buffers; and of the book
abbrev pub AnswersAsBefore : Type 0
AnswersAsBefore = (r : Reader) (cs : List Call) → opted r.opening ≡ false → run reader_call r cs ≡ run before.reader_call r cs

abbrev pub BookAsBefore : Type 0
BookAsBefore = (k : Book) (cs : List Call) → opted k.opening ≡ false → run book_call k cs ≡ run before.book_call k cs
