-- Laws of a copy by blocks. Assumes nothing.
use Rattle.walks.proofs.Words.{◌≡◌, sym, ap, ◌∙◌, subst, List, ◌++◌, append_assoc, ℕ, ◌+◌, ◌<◌, ◌≤◌, zero-le, add_assoc, zero-add, add-one, arith, length, get_or, set, take, drop, length-drop, paste, paste-suc, take-paste, drop-paste, take-add, drop-drop, length-take-le, sets, sets-eq, Bool, true, false, le-leb, lt-leb}
use Rattle.copying.proofs.Terms.{Copying, copying, both_have, copy}

-- a block of k elements copied behind i that were copied
pub more : (d s : List ℕ) (to i k : ℕ) → to + i ≤ length d → i ≤ length s → paste (paste d to s i) (to + i) (drop i s) k ≡ paste d to s (i + k)
more d s to i k hd hs =
    ap (λ (p : List ℕ). p ++ take k (drop i s) ++ drop (to + i + k) (paste d to s i)) (take-paste d to s i (omega (arith, hd)) hs)
    ∙ ap (λ (q : List ℕ). take to d ++ take i s ++ take k (drop i s) ++ q)
    (sym (drop-drop k (to + i) (paste d to s i)) ∙ ap (λ (q : List ℕ). drop k q) (drop-paste d to s i (omega (arith, hd)) hs) ∙ drop-drop k (to + i) d)
    ∙ ap (λ (q : List ℕ). q ++ drop (to + i + k) d) (append_assoc (take to d) (take i s) (take k (drop i s)) ∙ ap (λ (q : List ℕ). take to d ++ q) (sym (take-add i k s)))
    ∙ ap (λ (m : ℕ). take to d ++ take (i + k) s ++ drop m d) (add_assoc to i k)

-- a turn of a loop that copies
pub turn : (dst d s : List ℕ) (at j x : ℕ) → dst ≡ paste d at s j → x ≡ get_or s j 0 → at + j < length d → j < length s → set dst (at + j) x ≡ paste d at s (j + 1)
turn dst d s at j x e ex hd hs =
    ap (λ (l : List ℕ). set l (at + j) x) e
    ∙ ap (λ (v : ℕ). set (paste d at s j) (at + j) v) ex
    ∙ paste-suc d at s j 0 hd hs
    ∙ ap (λ (m : ℕ). paste d at s m) (sym (add-one j))

-- the same from the start
pub turn0 : (dst d s : List ℕ) (j x : ℕ) → dst ≡ paste d 0 s j → x ≡ get_or s j 0 → j < length d → j < length s → set dst j x ≡ paste d 0 s (j + 1)
turn0 dst d s j x e ex hd hs =
    ap (λ (m : ℕ). set dst m x) (sym (zero-add j)) ∙ turn dst d s 0 j x e ex (subst (λ (m : ℕ). m < length d) (sym (zero-add j)) hd) hs

pub within : (s : List ℕ) (from n i : ℕ) → from + n ≤ length s → i < n → i < length (drop from s)
within s from n i h hi = subst (λ (m : ℕ). i < m) (sym (length-drop from s)) (omega (arith, h, hi))

-- what a block that was filled begins with
pub front : (b s : List ℕ) (k : ℕ) → k ≤ length s → take k (paste b 0 s k) ≡ take k s
front b s k hs = ap (λ (m : ℕ). take m (paste b 0 s k)) (sym (zero-add k)) ∙ take-paste b 0 s k zero-le hs

pub room : (s : List ℕ) (from n : ℕ) → from + n ≤ length s → n ≤ length (drop from s)
room s from n h = subst (λ (m : ℕ). n ≤ m) (sym (length-drop from s)) (omega (arith, h))

-- ---- a copy that fits, and one that does not

paste-sets : (d : List ℕ) (at : ℕ) (s : List ℕ) (n : ℕ) → at + n ≤ length d → n ≤ length s → paste d at s n ≡ sets d at (take n s)
paste-sets d at s n h k =
    let l : length (take n s) ≡ n = length-take-le n s k in
    sym (sets-eq (take n s) d at (omega arith) ∙ ap (λ (x : ℕ). take at d ++ take n s ++ drop (at + x) d) l)

module _ (src : List ℕ) (from : ℕ) (dst : List ℕ) (to n : ℕ) where
  pub copies : from + n ≤ length src → to + n ≤ length dst → (r : List ℕ) → r ≡ paste dst to (drop from src) n → copying true r ≡ copy src from dst to n
  unfolding copy both_have
  copies h k r e =
      rw (le-leb (from + n) (length src) h, le-leb (to + n) (length dst) k, e)
      (ap (copying true) (paste-sets dst to (drop from src) n k (room src from n h)))

  pub source_short : length src < from + n → copying false dst ≡ copy src from dst to n
  unfolding copy both_have
  source_short h = rw (lt-leb (from + n) (length src) h)

  pub target_short : from + n ≤ length src → length dst < to + n → copying false dst ≡ copy src from dst to n
  unfolding copy both_have
  target_short h k = rw (le-leb (from + n) (length src) h, lt-leb (to + n) (length dst) k)

-- a copy that fits puts the run in place
pub copied : (src : List ℕ) (from : ℕ) (dst : List ℕ) (to n : ℕ) (done : Bool) (after : List ℕ) → copying done after ≡ copy src from dst to n
    → from + n ≤ length src → to + n ≤ length dst → after ≡ sets dst to (take n (drop from src))
unfolding copy both_have
copied src from dst to n done after e h k =
    ap (λ (c : Copying). c.buffer) (rw (le-leb (from + n) (length src) h, le-leb (to + n) (length dst) k) at e)
