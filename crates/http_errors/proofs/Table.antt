-- A table of rows that a rule makes, and its entry at a place. Assumes nothing.
use Rattle.walks.proofs.Words.{◌≡◌, ap, sym, ◌∙◌, List, [], ◌∷◌, ℕ, zero, suc, ◌+◌, ◌<◌, add-zero, zero-add, add-suc, suc-add, le_of_suc-le-suc, not-suc-le-zero, get_or}

-- f i, f (i + 1), .., n of them
abbrev pub listed : {A : Type 0} → (ℕ → A) → ℕ → ℕ → List A
listed f i zero = []
listed f i (suc n) = f i ∷ listed f (suc i) n

-- r rows of c entries
abbrev pub table : {A : Type 0} → (ℕ → ℕ → A) → ℕ → ℕ → List (List A)
table f r c = listed (λ e. listed (f e) 0 c) 0 r

from : {A : Type 0} (f : ℕ → A) (n i k : ℕ) (d : A) → k < n → get_or (listed f i n) k d ≡ f (i + k)
from f zero i k d h = absurd (not-suc-le-zero h)
from f (suc n) i zero d h = ap f (sym (add-zero i))
from f (suc n) i (suc k) d h = from f n (suc i) k d (le_of_suc-le-suc h) ∙ ap f (suc-add i k ∙ sym (add-suc i k))

pub at_list : {A : Type 0} (f : ℕ → A) (n k : ℕ) (d : A) → k < n → get_or (listed f 0 n) k d ≡ f k
at_list f n k d h = from f n 0 k d h ∙ ap f (zero-add k)

pub at_table : {A : Type 0} (f : ℕ → ℕ → A) (r c i j : ℕ) (row : List A) (d : A) → i < r → j < c
    → get_or (get_or (table f r c) i row) j d ≡ f i j
at_table f r c i j row d hi hj =
    ap (λ l. get_or l j d) (at_list (λ k. listed (f k) 0 c) r i row hi) ∙ at_list (f i) c j d hj
