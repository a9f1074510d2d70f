-- Calls on a reader that is kept in words (specs/Claims.antt). Assumes nothing.
use Rattle.std.specs.Prelude.{Option, Some, None, Result, Ok, Err}
use Rattle.refusals.specs.declared.Refusal.{Refusal}
use Rattle.capsule.specs.declared.reader.Ending.{Ending}
use Rattle.capsule.specs.declared.reader.Ending.TheVariants.{Clean, Truncated}
use Rattle.opening.specs.declared.Report.{Report}
use Rattle.capsule.specs.declared.reader.Advance.{Advance}
use Rattle.capsule.specs.Reader.{taking}
use Prim.{tt}
use Rattle.walks.proofs.Words.{ℕ, ◌≡◌, refl, sym, ap, ◌∙◌, Bool, true, List, [], ◌∷◌, arith, leb}
use Rattle.capi.proofs.Terms.{Bytes, parted, starts_le, is_partial, largest, Phase, InType, InLength, InValue, Reader, Role, Opening, new_book, Lent, close, run, opening, open_of, is_opening, is_makeable, feed_of, close_of, reader_call, is_makeable_phase, made_book, open_fresh, fresh_book, fresh_open, refused-close_unchanged, stays_makeable, calls_makeable, refused_unchanged, role_of, flag_of, HaveIsByte, reader_mark, words_of, reader_in, fed_report, fed_took, fed_answer, closed_answer, close_refusal, opened_at, open_words, words_fed, feed_loaded, feed_words, words_closed, closed_by, close_loaded, close_words, look_words, RefusedReaderLeaves, ZeroWordsRefused, OpenKept, FeedKept, CloseKept, ReaderKept, stored-read}
use Rattle.reader_calls.specs.Reader.{fed_by}
use Rattle.capi.proofs.Nonzero.{numbered_refusals}

-- ---- a refusal leaves words and buffers

opened_leaves : (ws : List ℕ) (o : Result Reader Refusal) → ((opened_at ws o).answer ≡ 0 → ⊥) → (opened_at ws o).words ≡ ws
unfolding opened_at
opened_leaves ws (Err why) n = refl
opened_leaves ws (Ok r) n = absurd (n refl)

module _ (ws p : List ℕ) (b : Lent) where
  fed_leaves : (r : Reader) (x : Result Advance Refusal) → (feed_of r p b).answer ≡ x → ((fed_answer x).refusal ≡ 0 → ⊥) → (words_fed ws (feed_of r p b).reader x ≡ ws) × ((feed_of r p b).buffers ≡ b)
  unfolding fed_answer words_fed
  fed_leaves r (Err why) e n = (refl, (refused_unchanged r p b why e).1)
  fed_leaves r (Ok took) e n = absurd (n (go took.ended))
    where
      go : (x : Option Report) → (fed_answer (Ok (taking took.consumed took.written x))).refusal ≡ 0
      go None = unfold fed_answer fed_took in refl
      go (Some report) = unfold fed_answer fed_took fed_report in refl

  loaded_leaves : (x : Option Reader) → ((feed_loaded ws p b x).answer.refusal ≡ 0 → ⊥) → ((feed_loaded ws p b x).words ≡ ws) × ((feed_loaded ws p b x).buffers ≡ b)
  unfolding feed_loaded fed_by
  loaded_leaves None n = (refl, refl)
  loaded_leaves (Some r) n = fed_leaves r (feed_of r p b).answer refl n

close_leaves : (ws : List ℕ) (x : Option Reader) → ((close_loaded ws x).answer.refusal ≡ 0 → ⊥) → (close_loaded ws x).words ≡ ws
unfolding close_loaded closed_by closed_answer
close_leaves ws None n = refl
close_leaves ws (Some r) n = go (close_of r).answer n
  where
    go : (x : Result Ending Refusal) → (close_refusal x ≡ 0 → ⊥) → words_closed ws (close_of r).reader x ≡ ws
    go (Err why) m = unfold words_closed in refl
    go (Ok Clean) m = absurd (m (unfold close_refusal in refl))
    go (Ok Truncated) m = absurd (m (unfold close_refusal in refl))

pub refused_reader_leaves : RefusedReaderLeaves
unfolding open_words feed_words close_words
refused_reader_leaves ws = (
  λ role limit draft addresses n. opened_leaves ws (open_of (role_of role) limit (flag_of draft) (flag_of addresses)) n,
  λ p b n. loaded_leaves ws p b (reader_in ws) n,
  λ n. close_leaves ws (reader_in ws) n,
)

-- ---- words that are all 0

pub zero_words-refused : ZeroWordsRefused
unfolding reader_in reader_mark feed_words feed_loaded close_words close_loaded look_words
zero_words-refused = record { no_reader = refl; feeds = λ p b. refl; closes = refl; looks = refl }

-- ---- a state that can be made is kept

have_byte : (op : Opening) (x : Phase) → is_makeable_phase op x ≡ true → HaveIsByte x
unfolding is_makeable_phase is_partial
have_byte op (InType part) m = omega (arith, starts_le part.have part.raw m)
have_byte op (InLength t part) m = omega (arith, starts_le part.have part.raw (parted (leb t largest) (is_partial part) m).1)
have_byte op (InValue t n left) m = tt

makeable_read : (r : Reader) → is_makeable r ≡ true → reader_in (words_of r) ≡ Some r
unfolding is_makeable
makeable_read r m = stored-read r (have_byte r.opening r.phase (parted (is_opening r.opening) (is_makeable_phase r.opening r.phase) m).1)

open_makeable : (role : Role) (limit : ℕ) (draft addresses : Bool) (r : Reader) → open_of role limit draft addresses ≡ Ok r → is_makeable r ≡ true
open_makeable role limit draft addresses r e =
    let f = open_fresh role limit draft addresses r e in
    let op = opening role limit draft addresses in
    rw (f.1 ∙ fresh_book op) (made_book (new_book op) (fresh_open op f.0))

pub open_kept : OpenKept
unfolding open_words
open_kept ws role limit draft addresses z = go (open_of (role_of role) limit (flag_of draft) (flag_of addresses)) refl z
  where
    go : (o : Result Reader Refusal) → open_of (role_of role) limit (flag_of draft) (flag_of addresses) ≡ o → (opened_at ws o).answer ≡ 0
        → (r : Reader) × (open_of (role_of role) limit (flag_of draft) (flag_of addresses) ≡ Ok r) × ((opened_at ws o).words ≡ words_of r) × (is_makeable r ≡ true)
    go (Err why) e n = absurd (numbered_refusals.opens (role_of role) limit (flag_of draft) (flag_of addresses) why e (unfold opened_at in n))
    go (Ok r) e n = (r, e, unfold opened_at in refl, open_makeable (role_of role) limit (flag_of draft) (flag_of addresses) r e)

module _ (r : Reader) (m : is_makeable r ≡ true) where
  fed-words : (p : List ℕ) (b : Lent) (x : Result Advance Refusal) → (feed_of r p b).answer ≡ x → words_fed (words_of r) (feed_of r p b).reader x ≡ words_of (feed_of r p b).reader
  unfolding words_fed
  fed-words p b (Err why) e = ap words_of (sym (refused_unchanged r p b why e).0)
  fed-words p b (Ok took) e = refl

  feed_kept : (p : List ℕ) (b : Lent) → Bytes p → FeedKept r p b
  unfolding feed_words feed_loaded fed_by
  feed_kept p b h =
      let read = makeable_read r m in
      record { answer = rw read; words = rw read (fed-words p b (feed_of r p b).answer refl); buffers = rw read; makeable = stays_makeable r p b h m }

  closed-words : (x : Result Ending Refusal) → (close_of r).answer ≡ x → words_closed (words_of r) (close_of r).reader x ≡ words_of (close_of r).reader
  unfolding words_closed
  closed-words (Err why) e = ap words_of (sym (refused-close_unchanged r why e))
  closed-words (Ok x) e = refl

  close_kept : CloseKept r
  unfolding close_words close_loaded closed_by run reader_call
  close_kept =
      let read = makeable_read r m in
      record { answer = rw read; words = rw read (closed-words (close_of r).answer refl); makeable = calls_makeable r (close ∷ []) (tt, tt) m }

pub reader_kept : ReaderKept
reader_kept r m = (λ p b h. feed_kept r m p b h, close_kept r m)
