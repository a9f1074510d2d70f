-- What the calls on a reader in words come to. Assumes nothing.
use Rattle.std.specs.Prelude.{Option, Some, None, Result, Ok, Err}
use Rattle.capsule.specs.declared.reader.Ending.{Ending}
use Rattle.opening.specs.declared.Report.{Report}
use Rattle.capsule.specs.declared.reader.Advance.{Advance}
use Rattle.capsule.specs.Reader.{taking}
use Rattle.walks.proofs.Words.{ℕ, ◌≡◌, sym, ap, ◌∙◌, List}
use Rattle.reader_calls.proofs.Terms.{Refusal, unmakeable_state, Reader, Closed, Lent, feeding, feed_of, close_of, FedAnswer, ClosedAnswer, words_of, reader_in, fed_refused, fed_took, fed_answer, closed_answer, words_fed, fed, fed_by, feed_loaded, feed_words, words_closed, closed, closed_by, close_loaded, close_words}

module _ (ws p : List ℕ) (b : Lent) where
  pub feed_nothing : (a : FedAnswer) → reader_in ws ≡ None → a ≡ fed_refused unmakeable_state → fed a ws b ≡ feed_words ws p b
  unfolding feed_words feed_loaded
  feed_nothing a e said = rw (e, said)

  module _ (r r' : Reader) (x : Result Advance Refusal) (b' : Lent) (a : FedAnswer) (loads : reader_in ws ≡ Some r) (feeds : feeding r' x b' ≡ feed_of r p b) where
    feed_by_lem : (ws' : List ℕ) → a ≡ fed_answer x → ws' ≡ words_fed ws r' x → fed a ws' b' ≡ feed_words ws p b
    unfolding feed_words feed_loaded fed_by
    feed_by_lem ws' said kept = rw (said, kept) (ap (fed_by ws) feeds ∙ sym (ap (feed_loaded ws p b) loads))

    pub feed_kept : (why : Refusal) → x ≡ Err why → a ≡ fed_refused why → fed a ws b' ≡ feed_words ws p b
    unfolding fed_answer words_fed
    feed_kept why is said = feed_by_lem ws (rw is said) (rw is)

    pub feed_stored : (ws' : List ℕ) (consumed written : ℕ) (ended : Option Report) → x ≡ Ok (taking consumed written ended) → a ≡ fed_took consumed written ended → ws' ≡ words_of r' → fed a ws' b' ≡ feed_words ws p b
    unfolding fed_answer words_fed
    feed_stored ws' consumed written ended is said stored = feed_by_lem ws' (rw is said) (rw is stored)

module _ (ws : List ℕ) where
  pub close-nothing : (a : ClosedAnswer) → reader_in ws ≡ None → a ≡ closed_answer (Err unmakeable_state) → closed a ws ≡ close_words ws
  unfolding close_words close_loaded
  close-nothing a e said = rw (e, said)

  module _ (r : Reader) (d : Closed) (a : ClosedAnswer) (loads : reader_in ws ≡ Some r) (closes : d ≡ close_of r) (said : a ≡ closed_answer d.answer) (v : Result Ending Refusal) (is : d.answer ≡ v) where
    pub close_by : (ws' : List ℕ) → ws' ≡ words_closed ws d.reader v → closed a ws' ≡ close_words ws
    unfolding close_words close_loaded closed_by
    close_by ws' kept = rw (said, kept, ← is) (ap (closed_by ws) closes ∙ sym (ap (close_loaded ws) loads))
