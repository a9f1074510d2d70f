-- Lists of calls on a reader in words (specs/Claims.antt). Assumes nothing.
use Rattle.walks.proofs.Words.{◌≡◌, refl, sym, ap, subst, ◌∙◌, None, List, [], ◌∷◌, ℕ}
use Rattle.capi.proofs.Terms.{Reader, feed, close, Reply, run, new_book, book_call, of_book, opening, fresh, feed_of, close_of, reader_call, HandedOn, open_fresh, demand_3, role_of, flag_of, words_of, feed_words, close_words, fed_in, closed_in, words_call, run_words, numbers_of, run_numbers, Throughout, Demand3InWords}
use Rattle.capi.proofs.Keeping.{open_kept, reader_kept}

pub throughout : Throughout
unfolding run_words words_call run_numbers numbers_of run reader_call
throughout r m [] h = refl
throughout r m (feed p b ∷ cs) h =
    let k = (reader_kept r m).0 p b h.0 in
    let rest : run_words (feed_words (words_of r) p b).words cs ≡ (words_of (run reader_call (feed_of r p b).reader cs).0, run_numbers (feed_of r p b).reader cs) = ap (λ (ws : List ℕ). run_words ws cs) k.words ∙ throughout (feed_of r p b).reader k.makeable cs h.1 in
    λ i. ((rest i).0, fed_in (k.answer i) (k.buffers i) ∷ (rest i).1)
throughout r m (close ∷ cs) h =
    let k = (reader_kept r m).1 in
    let rest : run_words (close_words (words_of r)).words cs ≡ (words_of (run reader_call (close_of r).reader cs).0, run_numbers (close_of r).reader cs) = ap (λ (ws : List ℕ). run_words ws cs) k.words ∙ throughout (close_of r).reader k.makeable cs h.1 in
    λ i. ((rest i).0, closed_in (k.answer i) ∷ (rest i).1)

pub demand_3_in_words : Demand3InWords
demand_3_in_words ws role limit draft addresses cs z h l =
    let op = opening (role_of role) limit (flag_of draft) (flag_of addresses) in
    let k = open_kept ws role limit draft addresses z in
    let f : k.0 ≡ fresh op = (open_fresh (role_of role) limit (flag_of draft) (flag_of addresses) k.0 k.1).1 in
    let d = demand_3 (role_of role) limit (flag_of draft) (flag_of addresses) k.0 k.1 cs h (subst (λ (x : Reader). HandedOn None (new_book op) x cs) (sym f) l) in
    let state : (run reader_call k.0 cs).0 ≡ of_book (run book_call (new_book op) cs).0 = ap (λ (x : Reader × List Reply). x.0) d in
    ap (λ (w : List ℕ). run_words w cs) k.2 ∙ throughout k.0 k.3 cs h ∙ (λ i. (words_of (state i), run_numbers (f i) cs))
