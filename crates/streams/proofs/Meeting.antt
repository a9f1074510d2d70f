-- Records that have a number as their quarter, used or not. Assumes nothing.
use Rattle.std.specs.List.{list_any}
use Rattle.walks.proofs.Words.{◌≡◌, refl, ℕ, Bool, true, false, ◌&&◌, ◌||◌, true≢false, [], ◌∷◌, eqb}
use Rattle.streams.proofs.Terms.{StreamRecord, Table, holds, is_used}

abbrev pub meets : ℕ → StreamRecord → Bool
meets q r = eqb r.quarter.0 q

pub none_met : (q : ℕ) (t : Table) → list_any (meets q) t ≡ false → list_any (holds q) t ≡ false
unfolding holds
none_met q [] h = refl
none_met q (r ∷ rs) h = go (is_used r) (eqb r.quarter.0 q) h (λ x. none_met q rs x)
  where
    go : (u e : Bool) → (e || list_any (meets q) rs) ≡ false → (list_any (meets q) rs ≡ false → list_any (holds q) rs ≡ false) → ((u && e) || list_any (holds q) rs) ≡ false
    go u true x k = absurd (true≢false x)
    go true false x k = k x
    go false false x k = k x
