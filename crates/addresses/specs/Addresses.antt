-- The values of RFC 9484's address capsules (section 4.7): which are well formed.
use Rattle.short_forms.specs.declared.Varint.{Varint}
use Rattle.std.specs.Prelude.{ℕ, zero, suc, ◌+◌, ◌-◌, ◌*◌, ◌%◌, ◌^◌, Bool, true, false, cond, ◌&&◌, ◌||◌, not, List, [], ◌∷◌, length, take, drop, get_or, leb, ltb, eqb, Some, None}
use Rattle.std.specs.Prelude.{Option}
use Rattle.wire.specs.Bytes.{num}
use Rattle.wire.specs.Varint.{read_varint}

abbrev pub assign : ℕ
assign = 1

abbrev pub request : ℕ
request = 2

abbrev pub route : ℕ
route = 3

unfoldable pub is_address_type : ℕ → Bool
is_address_type t = leb assign t && leb t route

-- the longest value that is not malformed (house)
unfoldable pub longest_address_value : ℕ
longest_address_value = 1024

-- an address of IP version 4 has 4 bytes, one of version 6 has 16; there is no other version: 0
unfoldable pub width_of : ℕ → ℕ
width_of version = cond (eqb version 4) 4 (cond (eqb version 6) 16 0)

-- ---- entries, one after another

-- at the front of a list: nothing is left, what is left starts with no whole entry, or an entry and what follows it
pub data Step (A : Type 0) : Type 0 where
  done malformed : Step A
  next : A → List ℕ → Step A

unfoldable pub ahead : {A : Type 0} → A → Option (List A) → Option (List A)
ahead e None = None
ahead e (Some es) = Some (e ∷ es)

unfoldable pub onwards : {A : Type 0} → Step A → (List ℕ → Option (List A)) → Option (List A)
onwards done rest = Some []
onwards malformed rest = None
onwards (next e v) rest = ahead e (rest v)

-- each entry takes one off the fuel, and at least one byte off the list
unfoldable pub entries_by : {A : Type 0} → (List ℕ → Step A) → ℕ → List ℕ → Option (List A)
entries_by read zero v = None
entries_by read (suc fuel) v = onwards (read v) (entries_by read fuel)

-- all entries of a list; none if it is malformed
unfoldable pub entries : {A : Type 0} → (List ℕ → Step A) → List ℕ → Option (List A)
entries read v = entries_by read (suc (length v)) v

unfoldable pub all_of : {A : Type 0} → (A → Bool) → List A → Bool
all_of good [] = true
all_of good (e ∷ es) = good e && all_of good es

unfoldable pub are_good : {A : Type 0} → (List A → Bool) → Option (List A) → Bool
are_good good None = false
are_good good (Some es) = good es

-- ---- ADDRESS_ASSIGN and ADDRESS_REQUEST

pub record Entry : Type 0 where
  pub id : ℕ
  pub version : ℕ
  pub address : List ℕ
  pub prefix : ℕ

-- IP version, address, prefix length
unfoldable pub address_at : ℕ → List ℕ → Step Entry
address_at id [] = malformed
address_at id (version ∷ v) =
    let w = width_of version in
    cond (ltb 0 w && ltb w (length v))
    (next (record { id = id; version = version; address = take w v; prefix = get_or v w 0 }) (drop (w + 1) v))
    malformed

unfoldable pub identified : List ℕ → Option Varint → Step Entry
identified v None = malformed
identified v (Some read) = address_at read.value (drop read.size v)

-- request ID, then the rest
unfoldable pub entry_at : List ℕ → Step Entry
entry_at [] = done
entry_at (b ∷ v) = identified (b ∷ v) (read_varint (b ∷ v))

-- the bits of an address beyond its first p are all 0: of each byte the last 8 - p (there is no less than 0), and so on with p - 8
unfoldable pub clear_beyond : ℕ → List ℕ → Bool
clear_beyond p [] = true
clear_beyond p (b ∷ a) = eqb (b % 2 ^ (8 - p)) 0 && clear_beyond (p - 8) a

-- the prefix is no longer than the address, whose bits beyond it are all 0
unfoldable pub good_entry : Entry → Bool
good_entry e = leb e.prefix (8 * width_of e.version) && clear_beyond e.prefix e.address

-- of a REQUEST: the ID is not 0
unfoldable pub asks : Entry → Bool
asks e = ltb 0 e.id && good_entry e

unfoldable pub good_requests : List Entry → Bool
good_requests [] = false
good_requests (e ∷ es) = all_of asks (e ∷ es)

-- ---- ROUTE_ADVERTISEMENT

pub record Range : Type 0 where
  pub version : ℕ
  pub start : ℕ
  pub end : ℕ
  pub protocol : ℕ

-- IP version, start address, end address, IP protocol
unfoldable pub range_at : List ℕ → Step Range
range_at [] = done
range_at (version ∷ v) =
    let w = width_of version in
    cond (ltb 0 w && ltb (w + w) (length v))
    (next (record { version = version; start = num (take w v); end = num (take w (drop w v)); protocol = get_or v (w + w) 0 }) (drop (w + w + 1) v))
    malformed

-- the start is at most the end
unfoldable pub good_range : Range → Bool
good_range r = not (ltb r.end r.start)

-- of a range and the next: the version does not fall; in one version the protocol does not; in one version and protocol the end is below the next start
unfoldable pub before : Range → Range → Bool
before a b =
    ltb a.version b.version
    || (eqb a.version b.version && (ltb a.protocol b.protocol || (eqb a.protocol b.protocol && ltb a.end b.start)))

unfoldable pub in_order : List Range → Bool
in_order [] = true
in_order (a ∷ []) = true
in_order (a ∷ (b ∷ rs)) = before a b && in_order (b ∷ rs)

unfoldable pub disjoint : Range → Range → Bool
disjoint a b = ltb a.end b.start || ltb b.end a.start

-- a range for all protocols (0) overlaps none of its version for another protocol
unfoldable pub apart : Range → Range → Bool
apart a b =
    not (eqb a.version b.version)
    || ((eqb a.protocol 0 && eqb b.protocol 0) || ((ltb 0 a.protocol && ltb 0 b.protocol) || disjoint a b))

-- every two
unfoldable pub all_apart : List Range → Bool
all_apart [] = true
all_apart (a ∷ rs) = all_of (apart a) rs && all_apart rs

unfoldable pub good_ranges : List Range → Bool
good_ranges rs = all_of good_range rs && (in_order rs && all_apart rs)

-- ---- by the type

unfoldable pub good_value : ℕ → List ℕ → Bool
good_value t v =
    cond (eqb t assign) (are_good (all_of good_entry) (entries entry_at v))
    (cond (eqb t request) (are_good good_requests (entries entry_at v))
    (cond (eqb t route) (are_good good_ranges (entries range_at v)) false))

unfoldable pub well_formed : ℕ → List ℕ → Bool
well_formed t v = leb (length v) longest_address_value && good_value t v
