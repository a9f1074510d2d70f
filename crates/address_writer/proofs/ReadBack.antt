-- Entries written are read back. Assumes nothing.
use Rattle.walks.proofs.Words.{◌≡◌, refl, ap, ◌∙◌, ℕ, ◌^◌, Bool, true, false, cond, ◌&&◌, None, Some, List, [], ◌∷◌, ◌++◌, append_assoc, length, drop_at, leb, ltb, eqb, leb-true, ltb-true, eqb-true}
use Rattle.address_writer.proofs.Terms.{largest, least_size, encode, read_back, length-encode, width_of, done, malformed, next, entries, all_of, are_good, Entry, entry_at, good_entry, good_requests, Range, range_at, good_ranges, good_value, well_formed, entry_bytes, range_bytes, value_bytes, Each, both, Shrinks, entry_shrinks, range_shrinks, known, value_read, entry_read, range-read, id_fits, Form, entry_fits, range_fits, addresses, ranges, all_known, ReadsBackAs, ReadsBack, is_writable, WritableExactly}

module _ {A : Type 0} (f : Form A) where
  -- reading finds at the front of a value what was put there
  record Readable : Type 0 where
    nothing : f.read [] ≡ done
    shrinks : Shrinks f.read
    first : (e : A) (rest : List ℕ) → f.fits e ≡ true → f.read (f.bytes e ++ rest) ≡ cond (known (f.version e)) (next e rest) malformed

  each_fits : (es : List A) → all_of f.fits es ≡ true → Each (λ e. f.fits e ≡ true) es
  unfolding all_of
  each_fits [] g = tt
  each_fits (e ∷ es) g = let b = both (f.fits e) (all_of f.fits es) g in (b.0, each_fits es b.1)

  module _ (r : Readable) where
    read_as : (es : List A) → all_of f.fits es ≡ true → entries f.read (value_bytes f.bytes es) ≡ cond (all_known f es) (Some es) None
    unfolding all_known
    read_as es g = value_read f.read f.bytes (λ e. known (f.version e)) (λ e. f.fits e ≡ true) r.shrinks r.nothing r.first es (each_fits es g)

    reads_back_as : ReadsBackAs f
    reads_back_as es g k = read_as es g ∙ rw k

    good_as : (rule : List A → Bool) (es : List A) → all_of f.fits es ≡ true → are_good rule (entries f.read (value_bytes f.bytes es)) ≡ all_known f es && rule es
    good_as rule es g = ap (are_good rule) (read_as es g) ∙ go (all_known f es)
      where
        go : (b : Bool) → are_good rule (cond b (Some es) None) ≡ b && rule es
        go true = unfold are_good in refl
        go false = unfold are_good in refl

entry_first : (e : Entry) (rest : List ℕ) → entry_fits e ≡ true → entry_at (entry_bytes e ++ rest) ≡ cond (known e.version) (next e rest) malformed
unfolding entry_fits id_fits entry_bytes
entry_first e rest g =
    let b = both (leb e.id largest) (eqb (length e.address) (width_of e.version)) g in
    rw (append_assoc (encode e.id) _ rest)
    (entry_read e rest (eqb-true _ _ b.1) _ (least_size e.id) (read_back e.id (leb-true _ _ b.0) _).0 (drop_at (encode e.id) _ (least_size e.id) (length-encode e.id)))

range-first : (r : Range) (rest : List ℕ) → range_fits r ≡ true → range_at (range_bytes r ++ rest) ≡ cond (known r.version) (next r rest) malformed
unfolding range_fits
range-first r rest g =
    let b = both (ltb r.start (256 ^ width_of r.version)) (ltb r.end (256 ^ width_of r.version)) g in
    range-read r rest (ltb-true _ _ b.0) (ltb-true _ _ b.1)

addresses_readable : Readable addresses
addresses_readable = record { nothing = (unfold entry_at in refl); shrinks = entry_shrinks; first = entry_first }

ranges_readable : Readable ranges
ranges_readable = record { nothing = (unfold range_at in refl); shrinks = range_shrinks; first = range-first }

pub reads_back : ReadsBack
reads_back = (reads_back_as addresses addresses_readable, reads_back_as ranges ranges_readable)

pub writable_exactly : WritableExactly
unfolding well_formed good_value is_writable
writable_exactly = (
  λ es g. rw (good_as addresses addresses_readable (all_of good_entry) es g),
  λ es g. rw (good_as addresses addresses_readable good_requests es g),
  λ es g. rw (good_as ranges ranges_readable good_ranges es g),
)
