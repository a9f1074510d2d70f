-- Each of the two buffers for values holds the value bytes that came. Assumes nothing.
use Rattle.std.specs.Prelude.{Some}
use Rattle.short_forms.specs.Short.{varint_of}
use Rattle.walks.proofs.Words.{◌≡◌, refl, sym, ap, ◌∙◌, subst, ℕ, ◌+◌, ◌-◌, ◌≤◌, arith, Bool, true, false, cond, List, [], ◌++◌, append-nil, length, take, drop, length-append, length-drop, take-length, drop-nil, take_at, drop-append-le, length-take-le, sets, sets-eq, leb}
use Rattle.capsule_laws.proofs.Terms.{whole_same, read_varint, split, reads, Opening, Role, Endpoint, Intermediary, Kind, Datagram, Address, Unknown, Report, Delivered, Dropped, AddressDelivered, Malformed, Plan, Extent, Stage, in_value, part, whole, longest_address_value, well_formed, kind_of, opted, extent_of, report_by, report_of, judged, only_delivered, gathers_by, gathers, keeps_by, keeps, length_of, stored, StandsAt, gathers_limit, keeps_limit, keeps-opted}
use Rattle.capsule_laws.proofs.{Grammar.Sees, Grammar.sees_type, Grammar.sees_length, Grammar.sees_value, Grammar.sees_whole, Grammar.head_stays, Grammar.head_fits, Grammar.drop-take, Appending.Shows, Plans.plan_at, Plans.longer, Plans.drop_past}

-- ---- lists

pub drop_all : (r : List ℕ) (j : ℕ) → length r ≤ j → drop j r ≡ []
drop_all r j h = ap (drop j) (sym (append-nil r)) ∙ drop_past r [] j h ∙ drop-nil (j - length r)

drop-append : (r q : List ℕ) (j : ℕ) → drop j (r ++ q) ≡ drop j r ++ drop (j - length r) q
drop-append r q j = split j (length r)
    (λ h. let z : j - length r ≡ 0 = omega arith in drop-append-le j r q h ∙ ap (λ (k : ℕ). drop j r ++ drop k q) (sym z))
    (λ h. let e : drop j r ≡ [] = drop_all r j (omega arith) in drop_past r q j (omega arith) ∙ ap (λ (l : List ℕ). l ++ drop (j - length r) q) (sym e))

-- bytes that are stored stand behind those before their place
pub take-sets : (g v : List ℕ) (place n : ℕ) → n ≡ place + length v → n ≤ length g → take n (sets g place v) ≡ take place g ++ v
take-sets g v place n e h =
    let l : place + length v ≤ length g = omega arith in
    let m : length (take place g) ≡ place = length-take-le place g (omega arith) in
    let k : length (take place g ++ v) ≡ n = omega (arith, length-append (take place g) v) in
    ap (take n) (sets-eq v g place l) ∙ take_at (take place g ++ v) (drop (place + length v) g) n k

-- ---- behind the tail r the bytes q came: of both the value begins at j

module _ (g r q : List ℕ) (j : ℕ) where
  pub stands_on : j ≤ length r + length q → length (r ++ q) - j ≤ length g → take (length r - j) g ≡ drop j r
      → take (length (r ++ q) - j) (sets g (length r - j) (drop (j - length r) q)) ≡ drop j (r ++ q)
  stands_on h l e =
      let n : length (r ++ q) - j ≡ length r - j + length (drop (j - length r) q) = omega (arith, length-append r q, length-drop (j - length r) q) in
      take-sets g (drop (j - length r) q) (length r - j) (length (r ++ q) - j) n l
      ∙ ap (λ (x : List ℕ). x ++ drop (j - length r) q) e ∙ sym (drop-append r q j)

stored_is : (p g : List ℕ) (at c place : ℕ) → at ≤ c → stored true at c place p g ≡ sets g place (drop at (take c p))
unfolding stored
stored_is p g at c place h =
    let e : at + (c - at) ≡ c = omega arith in
    ap (sets g place) (sym (drop-take at (c - at) p) ∙ ap (λ (k : ℕ). drop at (take k p)) e)

-- ---- what stands in the buffer before the piece

empty_front : (g r : List ℕ) (j : ℕ) → length r ≤ j → take (length r - j) g ≡ drop j r
empty_front g r j h =
    let z : length r - j ≡ 0 = omega arith in
    ap (λ (k : ℕ). take k g) z ∙ sym (drop_all r j h)

-- ---- one buffer, into which the values of the capsules go for which `stores` holds

module _ (ext : Extent) (stores : ℕ → ℕ → Bool) (r p g : List ℕ) where
  stood : (x : Stage) (t i n k : ℕ) → Sees ext r (part x) → StandsAt stores r x g
      → read_varint (r ++ p) ≡ Some (varint_of t i) → read_varint (drop i (r ++ p)) ≡ Some (varint_of n k) → stores t n ≡ true → take (length r - (i + k)) g ≡ drop (i + k) r
  stood x t i n k (sees_type e) s a b h = empty_front g r (i + k) (omega (arith, longer r p t i e a))
  stood x t i n k (sees_length {t = u} {j = j} e d) s a b h =
      let f = reads r u j e in
      let y : j ≡ i = (whole_same (sym (f.stays p) ∙ a)).1 in
      let c : read_varint (drop j r ++ p) ≡ Some (varint_of n k) = rw (← (drop-append-le j r p f.fits), y) b in
      empty_front g r (i + k) (omega (arith, longer (drop j r) p n k d c, length-drop j r, f.fits))
  stood x t i n k (sees_value {t = u} {j = j} {n = m} {k = l} e d h) s a b v =
      let f = head_stays r e d p in
      let same = whole_same (sym f.0 ∙ a) in
      let y : j ≡ i = same.1 in
      let z : u ≡ t = same.0 in
      let f' : read_varint (drop i (r ++ p)) ≡ Some (varint_of m l) = subst (λ (y : ℕ). read_varint (drop y (r ++ p)) ≡ Some (varint_of m l)) y f.1 in
      let b' : m ≡ n = (whole_same (sym f' ∙ b)).0 in
      let c : l ≡ k = (whole_same (sym f' ∙ b)).1 in
      rw (← y, ← c) (s (rw (z, b') v))

  module _ (x : Stage) (v : Sees ext r (part x)) (s : StandsAt stores r x g) (big : (t n : ℕ) → stores t n ≡ true → ext t n ≤ length g) where
    -- the value that begins at i + k, of which the piece's first c bytes came
    came : (t i n k c : ℕ) → read_varint (r ++ p) ≡ Some (varint_of t i) → read_varint (drop i (r ++ p)) ≡ Some (varint_of n k) → stores t n ≡ true
        → c ≤ length p → i + k ≤ length r + c → length r + c - (i + k) ≤ ext t n
        → take (length r + c - (i + k)) (stored (stores t n) (i + k - length r) c (length r - (i + k)) p g) ≡ drop (i + k) (r ++ take c p)
    came t i n k c a b h l f u =
        let lim = big t n h in
        let q : length (take c p) ≡ c = length-take-le c p l in
        let e : length (r ++ take c p) ≡ length r + c = omega (arith, length-append r (take c p)) in
        ap (λ (z : Bool). take (length r + c - (i + k)) (stored z (i + k - length r) c (length r - (i + k)) p g)) h
        ∙ ap (take (length r + c - (i + k))) (stored_is p g (i + k - length r) c (length r - (i + k)) (omega arith))
        ∙ ap (λ (y : ℕ). take (y - (i + k)) (sets g (length r - (i + k)) (drop (i + k - length r) (take c p)))) (sym e)
        ∙ stands_on g r (take c p) (i + k) (omega arith) (omega arith) (stood x t i n k v s a b h)

    pub goes_stored : (t n j : ℕ) → Sees ext (r ++ p) (part (in_value t n j)) → stores t n ≡ true
        → take (length (r ++ p) - j) (stored (stores t n) (j - length r) (length p) (length r - j) p g) ≡ drop j (r ++ p)
    goes_stored t n j (sees_value {j = i} {k = k} e d h) gs =
        let len : length (r ++ p) ≡ length r + length p = length-append r p in
        let f = head_fits (r ++ p) e d in
        let b = stored (stores t n) (i + k - length r) (length p) (length r - (i + k)) p g in
        let a : take (length r + length p - (i + k)) b ≡ drop (i + k) (r ++ take (length p) p) =
        came t i n k (length p) e d gs (omega arith) (omega arith) (omega arith) in
        ap (λ (z : ℕ). take (z - (i + k)) b) len ∙ a ∙ ap (λ (q : List ℕ). drop (i + k) (r ++ q)) (take-length p)

    pub ends-stored : (t n j : ℕ) → Sees ext (r ++ p) (whole t n j) → length r ≤ j + ext t n → stores t n ≡ true
        → take (ext t n) (stored (stores t n) (j - length r) (j + ext t n - length r) (length r - j) p g) ≡ drop j (r ++ take (j + ext t n - length r) p)
    ends-stored t n j (sees_whole {j = i} {k = k} e d h) l gs =
        let len : length (r ++ p) ≡ length r + length p = length-append r p in
        let m = ext t n in
        let f : length r + (i + k + m - length r) - (i + k) ≡ m = omega arith in
        ap (λ (z : ℕ). take z (stored (stores t n) (i + k - length r) (i + k + m - length r) (length r - (i + k)) p g)) (sym f)
        ∙ came t i n k (i + k + m - length r) e d gs (omega arith) (omega arith) (omega arith)

-- ---- the same of a plan: of the gathering buffer and of the second one

abbrev pub after : Bool → Plan → List ℕ → List ℕ → List ℕ
after flag plan p g = stored flag plan.at plan.consumed plan.place p g

-- the plan stores by `flag` what goes by `stores` into a buffer that has room for it
pub record Buffer (op : Opening) (stores : ℕ → ℕ → Bool) (flag : Plan → Bool) (g : List ℕ) : Type 0 where
  pub of_part : (r p : List ℕ) (t n j : ℕ) → flag (plan_at op r p (part (in_value t n j))) ≡ stores t n
  pub of_whole : (r p : List ℕ) (t n j : ℕ) → flag (plan_at op r p (whole t n j)) ≡ stores t n
  pub full : (t n : ℕ) → stores t n ≡ true → (extent_of op t n ≡ n) × (n ≤ length g)

pub gathering_buffer : (op : Opening) (g : List ℕ) → op.limit ≤ length g → Buffer op (gathers op) (λ (x : Plan). x.store) g
unfolding plan_at
gathering_buffer op g big = record { of_part = λ r p t n j. refl; of_whole = λ r p t n j. refl; full = λ t n e. omega (arith, gathers_limit op t n e) }

pub second_buffer : (op : Opening) (a : List ℕ) → (opted op ≡ true → longest_address_value ≤ length a) → Buffer op (keeps op) (λ (x : Plan). x.keep) a
unfolding plan_at
second_buffer op a big = record { of_part = λ r p t n j. refl; of_whole = λ r p t n j. refl; full = λ t n e. omega (arith, keeps_limit op t n e, big (keeps-opted op t n e)) }

module _ (op : Opening) (stores : ℕ → ℕ → Bool) (flag : Plan → Bool) (r p g : List ℕ) (x : Stage) (v : Shows op r (part x)) (s : StandsAt stores r x g) (b : Buffer op stores flag g) where
  room : (t n : ℕ) → stores t n ≡ true → extent_of op t n ≤ length g
  room t n e = omega (arith, b.full t n e)

  pub goes_in : (y : Stage) → Shows op (r ++ p) (part y) → StandsAt stores (r ++ p) y (after (flag (plan_at op r p (part y))) (plan_at op r p (part y)) p g)
  unfolding plan_at
  goes_in y (sees_type e) = tt
  goes_in y (sees_length e d) = tt
  goes_in y (sees_value {t = t} {j = i} {n = n} {k = k} e d h) = λ gs. rw (b.of_part r p t n (i + k)) (goes_stored (extent_of op) stores r p g x v s room t n (i + k) (sees_value e d h) gs)

  pub ends_in : (t n j : ℕ) → Shows op (r ++ p) (whole t n j) → length r ≤ j + extent_of op t n → stores t n ≡ true
      → take n (after (flag (plan_at op r p (whole t n j))) (plan_at op r p (whole t n j)) p g) ≡ drop j (r ++ take (j + extent_of op t n - length r) p)
  unfolding plan_at
  ends_in t n j w l gs = rw (b.of_whole r p t n j)
      (ap (λ (m : ℕ). take m (stored (stores t n) (j - length r) (j + extent_of op t n - length r) (length r - j) p g)) (sym (b.full t n gs).0) ∙ ends-stored (extent_of op) stores r p g x v s room t n j w l gs)

-- ---- the report and the payload

-- by type and length: the value v at the fronts of the buffers g and a decides what is reported and delivered
record Told (g a v : List ℕ) (r : Report) : Type 0 where
  report : judged r (take (length_of r) a) ≡ judged r v
  payload : only_delivered (judged r v) (take (length_of (judged r v)) g) (take (length_of (judged r v)) a) ≡ only_delivered (judged r v) v v

module _ (op : Opening) (t n : ℕ) (g a v : List ℕ) (hg : gathers op t n ≡ true → take n g ≡ v) (ha : keeps op t n ≡ true → take n a ≡ v) where
  told : Told g a v (report_of op t n)
  unfolding report_of
  told = go (kind_of op t) refl op.role
    where
      within : (b : Bool) → (b ≡ true → take n g ≡ v) → Told g a v (cond b (Delivered n) (Dropped n))
      within true e = unfold judged length_of only_delivered in record { report = refl; payload = e refl }
      within false e = unfold judged length_of only_delivered in record { report = refl; payload = refl }

      paid : take n a ≡ v → (b : Bool) → let r = cond b (AddressDelivered t n) (Malformed t n) in only_delivered r (take (length_of r) g) (take (length_of r) a) ≡ only_delivered r v v
      paid e true = unfold length_of only_delivered in e
      paid e false = unfold length_of only_delivered in refl

      fits : (b : Bool) → (b ≡ true → take n a ≡ v) → Told g a v (cond b (AddressDelivered t n) (Malformed t n))
      fits true e = unfold judged length_of in record { report = rw (e refl); payload = paid (e refl) (well_formed t v) }
      fits false e = unfold judged length_of only_delivered in record { report = refl; payload = refl }

      go : (k : Kind) → kind_of op t ≡ k → (r : Role) → Told g a v (report_by r op.limit k t n)
      go Datagram k r = unfold report_by in within (leb n op.limit) (λ e. hg (unfold gathers gathers_by in rw (k, e)))
      go Address k r = unfold report_by in fits (leb n longest_address_value) (λ e. ha (unfold keeps keeps_by in rw (k, e)))
      go Unknown k Endpoint = unfold report_by judged length_of only_delivered in record { report = refl; payload = refl }
      go Unknown k Intermediary = unfold report_by judged length_of only_delivered in record { report = refl; payload = refl }

  pub same_report : judged (report_of op t n) (take (length_of (report_of op t n)) a) ≡ judged (report_of op t n) v
  same_report = told.report

  pub same_payload : only_delivered (judged (report_of op t n) v) (take (length_of (judged (report_of op t n) v)) g) (take (length_of (judged (report_of op t n) v)) a) ≡ only_delivered (judged (report_of op t n) v) v v
  same_payload = told.payload
