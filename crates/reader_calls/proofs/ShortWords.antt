-- Short ways on a reader in words. Assumes nothing.
use Rattle.std.specs.Prelude.{Option, Some, None, Ok}
use Rattle.capsule.specs.Reader.{taking}
use Rattle.walks.proofs.Words.{ℕ, ◌-◌, ◌≤◌, ◌<◌, ◌≡◌, refl, sym, ap, ◌∙◌, List, length, get_or, set}
use Rattle.reader_calls.proofs.Terms.{Opening, Report, Reader, Lent, fresh, feeding, feed_of, whole_fed, whole_of, in_value, inside_fed, inside_of, whole-fed, whole_cut_fed, whole_not, inside_fed_lem, inside_ended_fed, inside_not, FedAnswer, phase_words, words_of, reader_in, opening_in, fed_report, fed_took, FeedDone, fed, feed_words, TriedRight, read_as_stored}
use Rattle.fast_paths.specs.declared.Whole.TheVariants as whole_as
use Rattle.fast_paths.specs.declared.Inside.TheVariants as inside_as
use Rattle.reader_calls.proofs.ReaderCalls.{feed_stored}

module _ (ws p : List ℕ) (b : Lent) where
  pub tried_nothing : (ws' : List ℕ) (d : Lent) → ws' ≡ ws → d ≡ b → TriedRight ws p b None ws' d
  unfolding TriedRight
  tried_nothing ws' d e f = (e, f)

  pub was_nothing : (r : Option FedAnswer) (ws' : List ℕ) (d : Lent) → TriedRight ws p b r ws' d → r ≡ None → (x : FeedDone) → x ≡ feed_words ws' p d → x ≡ feed_words ws p b
  unfolding TriedRight
  was_nothing r ws' d t e x q = let n : (ws' ≡ ws) × (d ≡ b) = rw e at t in q ∙ ap (λ (l : List ℕ). feed_words l p d) n.0 ∙ ap (feed_words ws p) n.1

  pub was_fed : (r : Option FedAnswer) (a : FedAnswer) (ws' : List ℕ) (d : Lent) → TriedRight ws p b r ws' d → r ≡ Some a → fed a ws' d ≡ feed_words ws p b
  unfolding TriedRight
  was_fed r a ws' d t e = rw e at t

  -- a short way that was taken, from the reader r to r', with the words changed by `change`
  tried :
      (r r' : Reader) (change : List ℕ → List ℕ) → reader_in ws ≡ Some r → length ws ≡ 8 → change (words_of r) ≡ words_of r'
      → (consumed written : ℕ) (ended : Option Report) (d : Lent) → feeding r' (Ok (taking consumed written ended)) d ≡ feed_of r p b
      → (a : FedAnswer) → a ≡ fed_took consumed written ended → TriedRight ws p b (Some a) (change ws) d
  unfolding TriedRight
  tried r r' change loads len stored consumed written ended d feeds a said =
      feed_stored ws p b r r' _ d a loads feeds (change ws) consumed written ended refl said (ap change (sym (read_as_stored ws r len loads)) ∙ stored)

  module _ (op : Opening) (is_op : op ≡ opening_in ws) where
    module _ (reads : reader_in ws ≡ Some (fresh (opening_in ws))) (third : get_or p 2 0 < 256) where
      pub between_not : (d : Lent) → whole_fed None d ≡ whole_of op p b → TriedRight ws p b None ws d
      between_not d q = tried_nothing ws d refl (whole_not op p b third d q)

      pub between_fed : length ws ≡ 8 → (consumed written : ℕ) (report : Report) (d : Lent) → whole_fed (Some (whole_as.Took consumed written report)) d ≡ whole_of op p b
          → (a : FedAnswer) → a ≡ fed_report consumed written report → TriedRight ws p b (Some a) ws d
      unfolding fed_took
      between_fed len consumed written report d q a said =
          tried (fresh op) (fresh op) (λ l. l) (rw is_op reads) len refl consumed written (Some report) d (whole-fed op p b third consumed written report d q) a said

      pub between_cut : length ws ≡ 8 → (written t n left : ℕ) (d : Lent) → whole_fed (Some (whole_as.Cut written t n left)) d ≡ whole_of op p b
          → (a : FedAnswer) → a ≡ fed_took (length p) written None → TriedRight ws p b (Some a) (set (set (set (set ws 3 2) 4 t) 5 n) 6 left) d
      unfolding words_of phase_words
      between_cut len written t n left d q a said =
          tried (fresh op) (in_value op t n left) (λ l. set (set (set (set l 3 2) 4 t) 5 n) 6 left) (rw is_op reads) len refl (length p) written None d (whole_cut_fed op p b third written t n left d q) a said

    module _ (reads : reader_in ws ≡ Some (in_value (opening_in ws) (get_or ws 4 0) (get_or ws 5 0) (get_or ws 6 0))) where
      abbrev t : ℕ
      t = get_or ws 4 0

      abbrev n : ℕ
      n = get_or ws 5 0

      abbrev left : ℕ
      left = get_or ws 6 0

      pub within_not : (d : Lent) → inside_fed None d ≡ inside_of op t n left p b → TriedRight ws p b None ws d
      within_not d q = tried_nothing ws d refl (inside_not op t n left p b d q)

      pub within-fits : (written : ℕ) (d : Lent) → inside_fed (Some (inside_as.Took written)) d ≡ inside_of op t n left p b → length p ≤ left
      within-fits written d q = (inside_fed_lem op t n left p b written d q).0

      pub within-fed : length ws ≡ 8 → (written : ℕ) (d : Lent) → inside_fed (Some (inside_as.Took written)) d ≡ inside_of op t n left p b
          → (a : FedAnswer) → a ≡ fed_took (length p) written None → TriedRight ws p b (Some a) (set ws 6 (left - length p)) d
      unfolding words_of phase_words
      within-fed len written d q a said =
          tried (in_value op t n left) (in_value op t n (left - length p)) (λ l. set l 6 (left - length p)) (rw is_op reads) len refl (length p) written None d (inside_fed_lem op t n left p b written d q).1 a said

      pub within_ended : length ws ≡ 8 → (consumed written : ℕ) (report : Report) (d : Lent) → inside_fed (Some (inside_as.Ended consumed written report)) d ≡ inside_of op t n left p b
          → (a : FedAnswer) → a ≡ fed_report consumed written report → TriedRight ws p b (Some a) (set (set (set (set ws 3 0) 4 0) 5 0) 6 0) d
      unfolding fed_took words_of phase_words
      within_ended len consumed written report d q a said =
          tried (in_value op t n left) (fresh op) (λ l. set (set (set (set l 3 0) 4 0) 5 0) 6 0) (rw is_op reads) len refl consumed written (Some report) d (inside_ended_fed op t n left p b consumed written report d q) a said
