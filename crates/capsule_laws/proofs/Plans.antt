-- A plan, in one step: by what stands at the front of the tail and the piece. Assumes nothing.
use Rattle.std.specs.Prelude.{Option, Some, None}
use Rattle.short_forms.specs.Short.{varint_of}
use Rattle.walks.proofs.Words.{◌≡◌, refl, sym, ap, ◌∙◌, subst, ℕ, ◌+◌, ◌-◌, ◌≤◌, ◌<◌, arith, false, List, [], ◌++◌, length, take, drop, length-append, length-drop, take-append-drop, take-append-le, drop-append-le, drop-append-add}
use Rattle.capsule_laws.proofs.Terms.{Varint, More, Ends, Bytes, read_varint, partial_of, taken_of, take_varint, bytes_drop, split, reads, read_nil, whole_incomplete, goes_on, empty-is, Opening, Plan, InType, InLength, InValue, Stage, in_type, in_length, in_value, Front, part, whole, front_by, extent_of, report_of, forwards, gathers, keeps, phase_at, no_bytes, plan_value, plan_head, plan_length, plan_type, plan_of, value-ends, value_goes, length_more, length-ends, type_more, type_ends}
use Rattle.capsule_laws.proofs.{Appending.Shows, Grammar.sees_type, Grammar.sees_length, Grammar.sees_value, Grammar.sees_whole, Grammar.front_is, Grammar.head_stays, Grammar.head_fits}

-- what is planned where `r` is the tail, `p` the piece, and the front of both is known
unfoldable pub plan_at : Opening → List ℕ → List ℕ → Front → Plan
plan_at op r p (part in_type) = plan_head (InType (partial_of (r ++ p))) (length p) false
plan_at op r p (part (in_length t j)) = plan_head (InLength t (partial_of (drop j (r ++ p)))) (length p) (forwards op t)
plan_at op r p (part (in_value t n j)) =
    record { next = InValue t n (j + extent_of op t n - length (r ++ p)); consumed = length p; ended = None; forward = forwards op t; store = gathers op t n; keep = keeps op t n; at = j - length r; place = length r - j }
plan_at op r p (whole t n j) =
    record { next = InType no_bytes; consumed = j + extent_of op t n - length r; ended = Some (report_of op t n); forward = forwards op t; store = gathers op t n; keep = keeps op t n; at = j - length r; place = length r - j }

-- ---- lists

-- a number that was not whole is whole only by bytes of the piece
pub longer : (r p : List ℕ) (v k : ℕ) → read_varint r ≡ None → read_varint (r ++ p) ≡ Some (varint_of v k) → length r < k
longer r p v k e d = split k (length r)
    (λ h. whole_incomplete (whole_here h) e)
    (λ h. h)
  where
    whole_here : k ≤ length r → read_varint r ≡ Some (varint_of v k)
    whole_here h =
        let f : read_varint (take k r) ≡ Some (varint_of v k) = subst (λ (l : List ℕ). read_varint l ≡ Some (varint_of v k)) (take-append-le k r p h) (reads (r ++ p) v k d).alone in
        subst (λ (l : List ℕ). read_varint l ≡ Some (varint_of v k)) (take-append-drop k r) ((reads (take k r) v k f).stays (drop k r))

-- what stands behind j bytes of both, where j goes past the first
pub drop_past : (r p : List ℕ) (j : ℕ) → length r ≤ j → drop j (r ++ p) ≡ drop (j - length r) p
drop_past r p j h =
    let e : j ≡ length r + (j - length r) = omega arith in
    ap (λ (k : ℕ). drop k (r ++ p)) e ∙ drop-append-add r p (j - length r)

-- ---- the value

module _ (op : Opening) (r p : List ℕ) (t n j at left : ℕ) (a : at ≡ j - length r) (l : left + (length r - j) ≡ extent_of op t n) (f : at ≤ length p) (g : j ≤ length r + length p) where
  value-whole : j + extent_of op t n ≤ length (r ++ p) → length r ≤ j + extent_of op t n → plan_value op p at t n left ≡ plan_at op r p (whole t n j)
  unfolding plan_at
  value-whole h i =
      let b : left ≤ length p - at = omega (arith, length-append r p) in
      let c : at + left ≡ j + extent_of op t n - length r = omega arith in
      let d : extent_of op t n - left ≡ length r - j = omega arith in
      value-ends op p at t n left b ∙ rw (c, d, a)

  value_part : length (r ++ p) < j + extent_of op t n → plan_value op p at t n left ≡ plan_at op r p (part (in_value t n j))
  unfolding plan_at
  value_part h =
      let b : length p - at < left = omega (arith, length-append r p) in
      let c : left - (length p - at) ≡ j + extent_of op t n - length (r ++ p) = omega (arith, length-append r p) in
      let d : extent_of op t n - left ≡ length r - j = omega arith in
      value_goes op p at t n left b ∙ rw (c, d, a)

-- ---- the whole plan

module _ (op : Opening) (r p : List ℕ) (w : Bytes r) where
  len : length (r ++ p) ≡ length r + length p
  len = length-append r p

  -- the head is complete, and its value stands from `at` on
  plan-value : (t i n k at left : ℕ) → read_varint (r ++ p) ≡ Some (varint_of t i) → read_varint (drop i (r ++ p)) ≡ Some (varint_of n k)
      → at ≡ i + k - length r → left + (length r - (i + k)) ≡ extent_of op t n → length r ≤ i + k + extent_of op t n
      → plan_value op p at t n left ≡ plan_at op r p (front_by (extent_of op) (r ++ p))
  plan-value t i n k at left e d a l m =
      let f = head_fits (r ++ p) e d in
      split (i + k + extent_of op t n) (length (r ++ p))
      (λ h. value-whole op r p t n (i + k) at left a l (omega (arith, len)) (omega (arith, len)) h m ∙ ap (plan_at op r p) (sym (front_is (sees_whole e d h))))
      (λ h. value_part op r p t n (i + k) at left a l (omega (arith, len)) (omega (arith, len)) h ∙ ap (plan_at op r p) (sym (front_is (sees_value e d h))))

  -- the type is complete, and the length stands from `at` on behind a part that is the bytes q
  plan-length : (t i at : ℕ) (q : List ℕ) → Bytes q → read_varint (r ++ p) ≡ Some (varint_of t i) → read_varint q ≡ None
      → drop i (r ++ p) ≡ q ++ drop at p → at + length r ≡ i + length q
      → plan_length op p at t (partial_of q) ≡ plan_at op r p (front_by (extent_of op) (r ++ p))
  plan-length t i at q b e d s a = go (read_varint (q ++ drop at p)) refl
    where
      taken : take_varint (partial_of q) (drop at p) ≡ taken_of (length q) (q ++ drop at p) (read_varint (q ++ drop at p))
      taken = goes_on q (drop at p) b d

      go : (x : Option Varint) → read_varint (q ++ drop at p) ≡ x → plan_length op p at t (partial_of q) ≡ plan_at op r p (front_by (extent_of op) (r ++ p))
      go None x =
          let y : take_varint (partial_of q) (drop at p) ≡ More (partial_of (q ++ drop at p)) = unfold taken_of in taken ∙ ap (taken_of (length q) (q ++ drop at p)) x in
          length_more op p at t (partial_of q) (partial_of (q ++ drop at p)) y
          ∙ ap (λ (l : List ℕ). plan_head (InLength t (partial_of l)) (length p) (forwards op t)) (sym s)
          ∙ (unfold plan_at in ap (plan_at op r p) (sym (front_is (sees_length e (rw s x)))))
      go (Some read) x =
          let y : take_varint (partial_of q) (drop at p) ≡ Ends (read.size - length q) read.value = unfold taken_of in taken ∙ ap (taken_of (length q) (q ++ drop at p)) x in
          let z : length q < read.size = longer q (drop at p) read.value read.size d x in
          length-ends op p at t (partial_of q) (read.size - length q) read.value y
          ∙ plan-value t i read.value read.size (at + (read.size - length q)) (extent_of op t read.value) e (rw s x) (omega arith) (omega arith) (omega arith)

  plan_type_lem : read_varint r ≡ None → plan_type op p (partial_of r) ≡ plan_at op r p (front_by (extent_of op) (r ++ p))
  plan_type_lem e = go (read_varint (r ++ p)) refl
    where
      taken : take_varint (partial_of r) p ≡ taken_of (length r) (r ++ p) (read_varint (r ++ p))
      taken = goes_on r p w e

      go : (x : Option Varint) → read_varint (r ++ p) ≡ x → plan_type op p (partial_of r) ≡ plan_at op r p (front_by (extent_of op) (r ++ p))
      go None x =
          let y : take_varint (partial_of r) p ≡ More (partial_of (r ++ p)) = unfold taken_of in taken ∙ ap (taken_of (length r) (r ++ p)) x in
          type_more op p (partial_of r) (partial_of (r ++ p)) y ∙ (unfold plan_at in ap (plan_at op r p) (sym (front_is (sees_type x))))
      go (Some read) x =
          let y : take_varint (partial_of r) p ≡ Ends (read.size - length r) read.value = unfold taken_of in taken ∙ ap (taken_of (length r) (r ++ p)) x in
          let z : length r < read.size = longer r p read.value read.size e x in
          type_ends op p (partial_of r) (read.size - length r) read.value y
          ∙ ap (plan_length op p (read.size - length r) read.value) (sym empty-is)
          ∙ plan-length read.value read.size (read.size - length r) [] tt x read_nil (drop_past r p read.size (omega arith)) (omega arith)

  pub plan-is : (x : Stage) → Shows op r (part x) → plan_of op p (phase_at op r x) ≡ plan_at op r p (front_by (extent_of op) (r ++ p))
  unfolding plan_of phase_at
  plan-is x (sees_type e) = plan_type_lem e
  plan-is x (sees_length {t = t} {j = j} e d) =
      let f = reads r t j e in
      plan-length t j 0 (drop j r) (bytes_drop j r w) (f.stays p) d (drop-append-le j r p f.fits) (omega (arith, length-drop j r, f.fits))
  plan-is x (sees_value {t = t} {j = j} {n = n} {k = k} e d h) =
      let f = head_fits r e d in
      let g = head_stays r e d p in
      plan-value t j n k 0 (j + k + extent_of op t n - length r) g.0 g.1 (omega arith) (omega arith) (omega arith)
