-- Of every state: by whether it is makeable, which its mark does not decide; and the buffer of a value.
use Rattle.std.specs.Prelude.{Ok, Err}
use Rattle.walks.proofs.Words.{◌≡◌, refl, sym, ap, ◌∙◌, ◌↔◌, ℕ, ◌≤◌, arith, Bool, true, false, cond, inl, inr}
use Rattle.look.proofs.Terms.{unmakeable_state, Opening, gathers, keeps, is_makeable, zero_one, no_true, Makes, IsAddress, IsDatagram, gathers_exactly, keeps_exactly, makeable_exactly, buffer_of, stored_in, sight_of, look_of, BufferOf, BufferExactly, StoredExactly, RefusedExactly, marked, seen_marked, FinishedSeen}
use Rattle.look.specs.declared.Buffer.TheVariants as buffer

pub refused_exactly : RefusedExactly
unfolding look_of
refused_exactly r why = go (is_makeable r) refl
  where
    go : (m : Bool) → is_makeable r ≡ m → (cond m (Ok (sight_of r)) (Err unmakeable_state) ≡ Err why) ↔ ((why ≡ unmakeable_state) × (Makes r → ⊥))
    go true e = (λ q. zero_one (cc q), λ q. absurd (q.1 ((makeable_exactly r).0 e)))
    go false e = (λ q. (cc q, λ m. no_true (sym e ∙ (makeable_exactly r).1 m)), λ q. ap Err (sym q.0))

pub finished-seen : FinishedSeen
unfolding look_of sight_of marked is_makeable
finished-seen r mark = go (is_makeable r)
  where
    go : (m : Bool) → cond m (Ok (sight_of (marked mark r))) (Err unmakeable_state) ≡ seen_marked mark (cond m (Ok (sight_of r)) (Err unmakeable_state))
    go true = unfold seen_marked in refl
    go false = unfold seen_marked in refl

-- ---- the buffer of a value

apart : (op : Opening) (t : ℕ) → IsDatagram op t → IsAddress op t → ⊥
apart op t (inl e) a = let l : 1 ≤ t = a.2 in let n : ⊥ = omega arith in n
apart op t (inr e) a = let l : t ≤ 3 = a.3 in let m : t ≡ 16725925 = e.1 in let n : ⊥ = omega arith in n

buffer_is : (op : Opening) (t n : ℕ) (g k : Bool) → gathers op t n ≡ g → keeps op t n ≡ k → buffer_of op t n ≡ cond g buffer.Gathering (cond k buffer.Addresses buffer.Neither)
unfolding buffer_of
buffer_is op t n g k e f = λ i. cond (e i) buffer.Gathering (cond (f i) buffer.Addresses buffer.Neither)

pub buffer_exactly : BufferExactly
buffer_exactly op t n = go (gathers op t n) (keeps op t n) refl refl
  where
    go : (g k : Bool) → gathers op t n ≡ g → keeps op t n ≡ k → BufferOf op t n
    go true k e f =
        let b = buffer_is op t n true k e f in
        let d = (gathers_exactly op t n).0 e in
        record {
          gathering = (λ q. d, λ h. b);
          addresses = (λ q. zero_one (cc (sym b ∙ q)), λ h. absurd (apart op t d.0 h.0));
          neither = (λ q. zero_one (cc (sym b ∙ q)), λ h. absurd (h.0 d));
        }
    go false true e f =
        let b = buffer_is op t n false true e f in
        let d = (keeps_exactly op t n).0 f in
        record {
          gathering = (λ q. zero_one (cc (sym b ∙ q)), λ h. absurd (apart op t h.0 d.0));
          addresses = (λ q. d, λ h. b);
          neither = (λ q. zero_one (cc (sym b ∙ q)), λ h. absurd (h.1 d));
        }
    go false false e f =
        let b = buffer_is op t n false false e f in
        let not-gathered : IsDatagram op t × (n ≤ op.limit) → ⊥ = λ h. no_true (sym e ∙ (gathers_exactly op t n).1 h) in
        let not-kept : IsAddress op t × (n ≤ 1024) → ⊥ = λ h. no_true (sym f ∙ (keeps_exactly op t n).1 h) in
        record {
          gathering = (λ q. zero_one (cc (sym b ∙ q)), λ h. absurd (not-gathered h));
          addresses = (λ q. zero_one (cc (sym b ∙ q)), λ h. absurd (not-kept h));
          neither = (λ q. (not-gathered, not-kept), λ h. b);
        }

pub stored_exactly : StoredExactly
unfolding stored_in
stored_exactly came = (refl, refl, refl)
