-- The fast paths of a feeding. Assumes nothing.
use Rattle.std.specs.Prelude.{Option, Some, None, Result, Ok, Err}
use Rattle.std.specs.Result.{result_ok}
use Rattle.capsule.specs.Reader.{taking}
use Rattle.planning.specs.Headers.{short_head}
use Rattle.walks.proofs.Words.{◌≡◌, refl, sym, ap, ◌∙◌, ℕ, ◌+◌, ◌-◌, ◌≤◌, ◌<◌, arith, Bool, true, false, cond, List, length, take, get_or, sets, leb, le-leb, lt-leb}
use Rattle.fast_paths.proofs.Terms.{Refusal, unmakeable_state, is_partial, starts, split, Opening, Report, Delivered, Dropped, Role, Endpoint, Intermediary, Kind, Datagram, Address, Unknown, Plan, Header, Value, InType, InValue, Reader, kind_of, extent_by, extent_of, report_by, report_of, judged, finishes, forwards, gathers, keeps_by, keeps, length_of, Lent, lent, finishes_in, lent_verdict, no_bytes, is_makeable_phase, plan_value, plan_type, plan_of, held_of, fresh, is_opening, is_makeable, verdict_of, wrote, stored, judged_in, Feeding, feeding, feed_of, Wrote, short_header, is_plain, is_short, WholeFed, whole_fed, whole_in, whole_by, whole_of, in_value, InsideFed, inside_fed, inside_in, inside_by, inside_of, zero_one, value-ends, value_goes, valued, short_reached, takes, unmakeable, by_lengths, feed_refused, feed_taken, gathers_by, forwards_by, bytes_of, no_true, copying, copy, wrote_some, gathers_limit, forwards_role, makeable_value, extent_most, accepts}
use Rattle.fast_paths.specs.declared.Whole.TheVariants as whole_as
use Rattle.fast_paths.specs.declared.Inside.TheVariants as inside_as

-- ---- states that are open

pub large_limit : (r : Reader) → 65535 < r.opening.limit → is_makeable r ≡ false
unfolding is_makeable is_opening
large_limit r h = rw (lt-leb r.opening.limit 65535 h)

pub made_by : (r : Reader) (b : Bool) → r.opening.limit ≤ 65535 → is_makeable_phase r.opening r.phase ≡ b → is_makeable r ≡ b
unfolding is_makeable is_opening
made_by r b h e = rw (le-leb r.opening.limit 65535 h) e

between : (op : Opening) → is_makeable_phase op (InType no_bytes) ≡ true
unfolding is_makeable_phase is_partial starts
between op = refl

accepted : (v : Result (Unit {0}) Refusal) → result_ok v ≡ Some tt → v ≡ Ok tt
accepted (Ok tt) e = refl
accepted (Err why) e = zero_one cc

-- the lengths decide where nothing stands before them
module _ (op : Opening) (piece gathering addresses output : ℕ) (h : op.limit ≤ 65535) (v : (Result (Unit {0}) Refusal)) (e : v ≡ lent_verdict op piece gathering addresses output) where
  pub fresh_verdict : v ≡ verdict_of (fresh op) piece gathering addresses output
  fresh_verdict = by_lengths (fresh op) piece gathering addresses output (made_by (fresh op) true h (between op)) refl v e

  pub fresh_accepted : result_ok v ≡ Some tt → verdict_of (fresh op) piece gathering addresses output ≡ Ok tt
  fresh_accepted k = sym fresh_verdict ∙ accepted v k

  pub value_verdict : (t n left : ℕ) → is_makeable_phase op (InValue t n left) ≡ true → v ≡ verdict_of (in_value op t n left) piece gathering addresses output
  value_verdict t n left m = by_lengths (in_value op t n left) piece gathering addresses output (made_by (in_value op t n left) true h m) refl v e

  pub value_accepted : (t n left : ℕ) → is_makeable_phase op (InValue t n left) ≡ true → result_ok v ≡ Some tt → verdict_of (in_value op t n left) piece gathering addresses output ≡ Ok tt
  value_accepted t n left m k = sym (value_verdict t n left m) ∙ accepted v k

-- what is planned there
at_type : (op : Opening) (p : List ℕ) → plan_type op p no_bytes ≡ plan_of op p (InType no_bytes)
unfolding plan_of
at_type op p = refl

at_value : (op : Opening) (p : List ℕ) (t n left : ℕ) → plan_value op p 0 t n left ≡ plan_of op p (InValue t n left)
unfolding plan_of
at_value op p t n left = refl

no_bytes_held : (op : Opening) (t n left : ℕ) → (no_bytes ≡ held_of (InType no_bytes)) × (no_bytes ≡ held_of (InValue t n left))
unfolding held_of
no_bytes_held op t n left = (refl, refl)

-- ---- a capsule that is no address capsule

-- all of its value is waited for, none of it is kept, and it is reported as by its type and length
pub record Plain (op : Opening) (t n : ℕ) : Type 0 where
  pub extent : extent_of op t n ≡ n
  pub keep : keeps op t n ≡ false
  pub judges : (v : List ℕ) → judged (report_of op t n) v ≡ report_of op t n
  pub lasts : finishes (report_of op t n) ≡ false

plain : (op : Opening) (t n : ℕ) → is_plain (kind_of op t) ≡ true → Plain op t n
unfolding extent_of keeps report_of
plain op t n e = let q = by (kind_of op t) e op.role in record { extent = q.0; keep = q.1; judges = q.2; lasts = q.3 }
  where
    within : (b : Bool) → ((v : List ℕ) → judged (cond b (Delivered n) (Dropped n)) v ≡ cond b (Delivered n) (Dropped n)) × (finishes (cond b (Delivered n) (Dropped n)) ≡ false)
    within true = unfold judged finishes in (λ v. refl, refl)
    within false = unfold judged finishes in (λ v. refl, refl)

    record_of : (k : Kind) (r : Role) → Type 0
    record_of k r = (extent_by k n ≡ n) × (keeps_by k n ≡ false) × ((v : List ℕ) → judged (report_by r op.limit k t n) v ≡ report_by r op.limit k t n) × (finishes (report_by r op.limit k t n) ≡ false)

    by : (k : Kind) → is_plain k ≡ true → (r : Role) → record_of k r
    by Datagram e r = unfold extent_by keeps_by report_by in (refl, refl, (within (leb n op.limit)).0, (within (leb n op.limit)).1)
    by Address e r = unfold is_plain in zero_one (cc)
    by Unknown e Endpoint = unfold extent_by keeps_by report_by judged finishes in (refl, refl, λ v. refl, refl)
    by Unknown e Intermediary = unfold extent_by keeps_by report_by judged finishes in (refl, refl, λ v. refl, refl)

none_kept : (op : Opening) (t n : ℕ) → is_plain (kind_of op t) ≡ true → (p : List ℕ) (b : Lent) (plan : Plan) → plan.keep ≡ keeps op t n
    → b.addresses ≡ stored plan.keep plan.at plan.consumed plan.place p b.addresses
unfolding stored
none_kept op t n q p b plan e = rw (e ∙ (plain op t n q).keep)

ended_so : (op : Opening) (t n : ℕ) → is_plain (kind_of op t) ≡ true → (a : List ℕ) → Some (report_of op t n) ≡ judged_in (Some (report_of op t n)) a
unfolding judged_in
ended_so op t n q a = ap Some (sym ((plain op t n q).judges (take (length_of (report_of op t n)) a)))

last_so : (op : Opening) (t n : ℕ) → is_plain (kind_of op t) ≡ true → false ≡ finishes_in (Some (report_of op t n))
unfolding finishes_in
last_so op t n q = sym (plain op t n q).lasts

nothing_so : (a : List ℕ) → None ≡ judged_in None a
unfolding judged_in
nothing_so a = refl

nothing_last : false ≡ finishes_in None
unfolding finishes_in
nothing_last = refl

-- ---- the bytes of a piece, moved

pub gathered_only : (op : Opening) (t n : ℕ) → gathers op t n ≡ true → forwards op t ≡ false
unfolding gathers forwards
gathered_only op t n e = go (kind_of op t) op.role e
  where
    go : (k : Kind) (r : Role) → gathers_by k op.limit n ≡ true → forwards_by r k ≡ false
    go Datagram Endpoint e = unfold forwards_by in refl
    go Datagram Intermediary e = unfold forwards_by in refl
    go Address r e = unfold gathers_by in no_true e
    go Unknown r e = unfold gathers_by in no_true e

pub forwarded : (op : Opening) (t : ℕ) (p o : List ℕ) (end : ℕ) → forwards op t ≡ true → end ≤ length p → end ≤ length o
    → (done : Bool) (after : List ℕ) → copying done after ≡ copy p 0 o 0 end → Wrote (wrote (forwards op t) no_bytes end p) o end after
unfolding bytes_of
forwarded op t p o end e l k done after c =
    let z : 0 + end ≡ end = omega arith in
    rw z at (wrote_some p o (forwards op t) no_bytes end e l (omega arith) o refl done after c)

-- the accepted lengths have room for what is moved
module _ (r : Reader) (piece gathering addresses output : ℕ) (v : verdict_of r piece gathering addresses output ≡ (Ok tt)) where
  pub fits : (t n at end place : ℕ) → at ≤ end → end ≤ piece → place + (end - at) ≤ n
      → (at ≤ end) × (end ≤ piece) × (gathers r.opening t n ≡ true → place + (end - at) ≤ gathering) × (forwards r.opening t ≡ true → end ≤ output)
  fits t n at end place h l k =
      let room = accepts r piece gathering addresses output v in
      (h, l, λ e. omega (arith, (gathers_limit r.opening t n e).1, room.gathers), λ e. omega (arith, room.forwards (forwards_role r.opening t e)))

  pub left_most : (t n left : ℕ) → r.phase ≡ InValue t n left → left ≤ n
  left_most t n left e =
      let made = rw e at (accepts r piece gathering addresses output v).phase in
      omega (arith, makeable_value r.opening t n left made, extent_most r.opening t n)

-- ---- between two capsules

module _ (op : Opening) (p : List ℕ) (b : Lent) where
  pub whole_long : short_header p ≡ None → whole_fed None b ≡ whole_of op p b
  unfolding whole_of is_short
  whole_long e = rw e

  -- after a short header it is the feeding
  pub whole-address : (at t n : ℕ) → short_header p ≡ Some (short_head at t n) → is_plain (kind_of op t) ≡ false → whole_fed None b ≡ whole_of op p b
  unfolding whole_of is_short
  whole-address at t n e q = rw (e, q)

  whole_is : (at t n : ℕ) → short_header p ≡ Some (short_head at t n) → is_plain (kind_of op t) ≡ true → (f : Feeding) → f ≡ feed_of (fresh op) p b → whole_by b f ≡ whole_of op p b
  unfolding whole_of is_short
  whole_is at t n e q f is_f = rw (e, q) (ap (whole_by b) is_f)

  pub whole-refused : (why : Refusal) → Err why ≡ verdict_of (fresh op) (length p) (length b.gathering) (length b.addresses) (length b.output) → whole_fed None b ≡ whole_of op p b
  unfolding whole_in
  whole-refused why e = go (short_header p) refl
    where
      go : (x : Option Header) → short_header p ≡ x → whole_fed None b ≡ whole_of op p b
      go None h = whole_long h
      go (Some short) h = by (is_plain (kind_of op short.ctype)) refl
        where
          by : (x : Bool) → is_plain (kind_of op short.ctype) ≡ x → whole_fed None b ≡ whole_of op p b
          by true q = whole_is short.at short.ctype short.size h q (feeding (fresh op) (Err why) b) (feed_refused (fresh op) p b why (sym e))
          by false q = whole-address short.at short.ctype short.size h q

  pub whole_unfit : (v : Result (Unit {0}) Refusal) → v ≡ verdict_of (fresh op) (length p) (length b.gathering) (length b.addresses) (length b.output) → result_ok v ≡ None → whole_fed None b ≡ whole_of op p b
  whole_unfit (Err why) e h = whole-refused why e
  whole_unfit (Ok u) e h = zero_one cc

  pub whole_large : 65535 < op.limit → whole_fed None b ≡ whole_of op p b
  whole_large h = whole-refused unmakeable_state (unmakeable (fresh op) (length p) (length b.gathering) (length b.addresses) (length b.output) (large_limit (fresh op) h))

  module _ (at t n : ℕ) (e : short_header p ≡ Some (short_head at t n)) (q : is_plain (kind_of op t) ≡ true) (c : get_or p 2 0 < 256) (v : verdict_of (fresh op) (length p) (length b.gathering) (length b.addresses) (length b.output) ≡ (Ok tt)) where
    planned : plan_value op p at t n n ≡ plan_of op p (InType no_bytes)
    planned =
        let x = extent_of op t n in
        ap (plan_value op p at t n) (sym (plain op t n q).extent)
        ∙ valued op p (Value at t n x) at t n x (plan_type op p no_bytes) (short_reached op p at t n c e) refl ∙ at_type op p

    whole-ends : n ≤ length p - at → (written : ℕ) (g o : List ℕ) → g ≡ stored (gathers op t n) at (at + n) 0 p b.gathering → Wrote (wrote (forwards op t) no_bytes (at + n) p) b.output written o
        → feeding (fresh op) (Ok (taking (at + n) written (Some (report_of op t n)))) (lent g b.addresses o) ≡ feed_of (fresh op) p b
    whole-ends h written g o is_g is_o =
        let z : extent_of op t n - n ≡ 0 = omega (arith, (plain op t n q).extent) in
        let plan : Plan = record { next = InType no_bytes; consumed = at + n; ended = Some (report_of op t n); forward = forwards op t; store = gathers op t n; keep = keeps op t n; at = at; place = extent_of op t n - n } in
        takes (fresh op) p b no_bytes plan written g b.addresses o (Some (report_of op t n)) false (no_bytes_held op t n n).0 (sym (value-ends op p at t n n h) ∙ planned) (rw z is_g) (none_kept op t n q p b plan refl) is_o (ended_so op t n q b.addresses) (last_so op t n q) ∙ feed_taken (fresh op) p b v

    whole_goes : length p - at < n → (written : ℕ) (g o : List ℕ) → g ≡ stored (gathers op t n) at (length p) 0 p b.gathering → Wrote (wrote (forwards op t) no_bytes (length p) p) b.output written o
        → feeding (in_value op t n (n - (length p - at))) (Ok (taking (length p) written None)) (lent g b.addresses o) ≡ feed_of (fresh op) p b
    whole_goes h written g o is_g is_o =
        let z : extent_of op t n - n ≡ 0 = omega (arith, (plain op t n q).extent) in
        let plan : Plan = record { next = InValue t n (n - (length p - at)); consumed = length p; ended = None; forward = forwards op t; store = gathers op t n; keep = keeps op t n; at = at; place = extent_of op t n - n } in
        takes (fresh op) p b no_bytes plan written g b.addresses o None false (no_bytes_held op t n n).0 (sym (value_goes op p at t n n h) ∙ planned) (rw z is_g) (none_kept op t n q p b plan refl) is_o (nothing_so b.addresses) nothing_last ∙ feed_taken (fresh op) p b v

    module _ (written : ℕ) (g o : List ℕ) where
      pub whole-taken : n ≤ length p - at → (report : Report) → report ≡ report_of op t n
          → g ≡ stored (gathers op t n) at (at + n) 0 p b.gathering → Wrote (wrote (forwards op t) no_bytes (at + n) p) b.output written o
          → whole_fed ((Some (whole_as.Took (at + n) written report))) (lent g b.addresses o) ≡ whole_of op p b
      unfolding whole_in
      whole-taken h report is_report is_g is_o =
          rw is_report (whole_is at t n e q (feeding (fresh op) (Ok (taking (at + n) written (Some (report_of op t n)))) (lent g b.addresses o)) (whole-ends h written g o is_g is_o))

      pub whole_cut : length p - at < n → g ≡ stored (gathers op t n) at (length p) 0 p b.gathering → Wrote (wrote (forwards op t) no_bytes (length p) p) b.output written o
          → whole_fed ((Some (whole_as.Cut written t n (n - (length p - at))))) (lent g b.addresses o) ≡ whole_of op p b
      unfolding whole_in
      whole_cut h is_g is_o =
          whole_is at t n e q (feeding (in_value op t n (n - (length p - at))) (Ok (taking (length p) written None)) (lent g b.addresses o)) (whole_goes h written g o is_g is_o)

-- the other way about: what is answered is the feeding
abbrev whole_again : Opening → ℕ → WholeFed → Feeding
whole_again op size f = elim f.answer [
  | None ↦ feeding (fresh op) (Err unmakeable_state) f.buffers
  | (Some (whole_as.Took consumed written report)) ↦ feeding (fresh op) (Ok (taking consumed written (Some report))) f.buffers
  | (Some (whole_as.Cut written t n left)) ↦ feeding (in_value op t n left) (Ok (taking size written None)) f.buffers
]

module _ (op : Opening) (p : List ℕ) (b : Lent) (c : get_or p 2 0 < 256) where
  -- either nothing was done, or what the feeding does
  whole_by_lem {ℓ} : {X : Type ℓ} → (whole_fed None b ≡ whole_of op p b → X)
      → (whole_again op (length p) (whole_of op p b) ≡ feed_of (fresh op) p b → ((whole_of op p b).answer ≡ None → ⊥) → X)
      → X
  whole_by_lem {X = X} nothing done = go (short_header p) refl (verdict_of (fresh op) (length p) (length b.gathering) (length b.addresses) (length b.output)) refl
    where
      go : (x : Option Header) → short_header p ≡ x → (v : (Result (Unit {0}) Refusal)) → verdict_of (fresh op) (length p) (length b.gathering) (length b.addresses) (length b.output) ≡ v → X
      go None e v f = nothing (whole_long op p b e)
      go (Some short) e (Err why) f = nothing (whole-refused op p b why (sym f))
      go (Some short) e (Ok tt) f = by (is_plain (kind_of op short.ctype)) refl
        where
          by : (x : Bool) → is_plain (kind_of op short.ctype) ≡ x → X
          by false q = nothing (whole-address op p b short.at short.ctype short.size e q)
          by true q = split short.size (length p - short.at)
              (λ h.
              let w = wrote (forwards op short.ctype) no_bytes (short.at + short.size) p in
              let g = stored (gathers op short.ctype short.size) short.at (short.at + short.size) 0 p b.gathering in
              let o = sets b.output 0 w in
              let taken = whole-taken op p b short.at short.ctype short.size e q c f (length w) g o h (report_of op short.ctype short.size) refl refl (record { counted = refl; placed = refl }) in
              done (ap (whole_again op (length p)) (sym taken) ∙ whole-ends op p b short.at short.ctype short.size e q c f h (length w) g o refl (record { counted = refl; placed = refl }))
              (λ z. zero_one (cc (ap (λ (x : WholeFed). x.answer) taken ∙ z))))
              (λ h.
              let w = wrote (forwards op short.ctype) no_bytes (length p) p in
              let g = stored (gathers op short.ctype short.size) short.at (length p) 0 p b.gathering in
              let o = sets b.output 0 w in
              let taken = whole_cut op p b short.at short.ctype short.size e q c f (length w) g o h refl (record { counted = refl; placed = refl }) in
              done (ap (whole_again op (length p)) (sym taken) ∙ whole_goes op p b short.at short.ctype short.size e q c f h (length w) g o refl (record { counted = refl; placed = refl }))
              (λ z. zero_one (cc (ap (λ (x : WholeFed). x.answer) taken ∙ z))))

  pub whole_not : (d : Lent) → whole_fed None d ≡ whole_of op p b → d ≡ b
  whole_not d q = whole_by_lem (λ n. ap (λ (x : WholeFed). x.buffers) (q ∙ sym n)) (λ a x. absurd (x (sym (ap (λ (y : WholeFed). y.answer) q))))

  pub whole-fed : (consumed written : ℕ) (report : Report) (d : Lent) → whole_fed (Some (whole_as.Took consumed written report)) d ≡ whole_of op p b
      → feeding (fresh op) (Ok (taking consumed written (Some report))) d ≡ feed_of (fresh op) p b
  whole-fed consumed written report d q =
      whole_by_lem (λ n. zero_one (cc (ap (λ (x : WholeFed). x.answer) (q ∙ sym n)))) (λ a x. ap (whole_again op (length p)) q ∙ a)

  pub whole_cut_fed : (written t n left : ℕ) (d : Lent) → whole_fed (Some (whole_as.Cut written t n left)) d ≡ whole_of op p b
      → feeding (in_value op t n left) (Ok (taking (length p) written None)) d ≡ feed_of (fresh op) p b
  whole_cut_fed written t n left d q =
      whole_by_lem (λ z. zero_one (cc (ap (λ (x : WholeFed). x.answer) (q ∙ sym z)))) (λ a x. ap (whole_again op (length p)) q ∙ a)

-- ---- within a value

module _ (op : Opening) (t n left : ℕ) (p : List ℕ) (b : Lent) where
  inside_is : is_plain (kind_of op t) ≡ true → (f : Feeding) → f ≡ feed_of (in_value op t n left) p b → inside_by b f ≡ inside_of op t n left p b
  unfolding inside_of
  inside_is q f is_f = rw q (ap (inside_by b) is_f)

  pub inside_address : is_plain (kind_of op t) ≡ false → inside_fed None b ≡ inside_of op t n left p b
  unfolding inside_of
  inside_address q = rw q

  pub inside_refused : (why : Refusal) → Err why ≡ verdict_of (in_value op t n left) (length p) (length b.gathering) (length b.addresses) (length b.output) → inside_fed None b ≡ inside_of op t n left p b
  unfolding inside_in
  inside_refused why e = by (is_plain (kind_of op t)) refl
    where
      by : (x : Bool) → is_plain (kind_of op t) ≡ x → inside_fed None b ≡ inside_of op t n left p b
      by true q = inside_is q (feeding (in_value op t n left) (Err why) b) (feed_refused (in_value op t n left) p b why (sym e))
      by false q = inside_address q

  pub inside_unfit : (v : Result (Unit {0}) Refusal) → v ≡ verdict_of (in_value op t n left) (length p) (length b.gathering) (length b.addresses) (length b.output) → result_ok v ≡ None → inside_fed None b ≡ inside_of op t n left p b
  inside_unfit (Err why) e h = inside_refused why e
  inside_unfit (Ok u) e h = zero_one cc

  pub inside_unmade : is_makeable (in_value op t n left) ≡ false → inside_fed None b ≡ inside_of op t n left p b
  inside_unmade m = inside_refused unmakeable_state (unmakeable (in_value op t n left) (length p) (length b.gathering) (length b.addresses) (length b.output) m)

  module _ (q : is_plain (kind_of op t) ≡ true) (v : verdict_of (in_value op t n left) (length p) (length b.gathering) (length b.addresses) (length b.output) ≡ (Ok tt)) where
    inside_ends : left ≤ length p → (written : ℕ) (g o : List ℕ) → g ≡ stored (gathers op t n) 0 left (n - left) p b.gathering → Wrote (wrote (forwards op t) no_bytes left p) b.output written o
        → feeding (fresh op) (Ok (taking left written (Some (report_of op t n)))) (lent g b.addresses o) ≡ feed_of (in_value op t n left) p b
    inside_ends h written g o is_g is_o =
        let z : 0 + left ≡ left = omega arith in
        let plan : Plan = record { next = InType no_bytes; consumed = left; ended = Some (report_of op t n); forward = forwards op t; store = gathers op t n; keep = keeps op t n; at = 0; place = extent_of op t n - left } in
        let is_plan : plan ≡ plan_of op p (InValue t n left) = sym (rw z at (value-ends op p 0 t n left (omega arith))) ∙ at_value op p t n left in
        takes (in_value op t n left) p b no_bytes plan written g b.addresses o (Some (report_of op t n)) false (no_bytes_held op t n left).1 is_plan (rw (plain op t n q).extent is_g) (none_kept op t n q p b plan refl) is_o (ended_so op t n q b.addresses) (last_so op t n q) ∙ feed_taken (in_value op t n left) p b v

    inside_goes : length p < left → (written : ℕ) (g o : List ℕ) → g ≡ stored (gathers op t n) 0 (length p) (n - left) p b.gathering → Wrote (wrote (forwards op t) no_bytes (length p) p) b.output written o
        → feeding (in_value op t n (left - length p)) (Ok (taking (length p) written None)) (lent g b.addresses o) ≡ feed_of (in_value op t n left) p b
    inside_goes h written g o is_g is_o =
        let z : length p - 0 ≡ length p = omega arith in
        let plan : Plan = record { next = InValue t n (left - length p); consumed = length p; ended = None; forward = forwards op t; store = gathers op t n; keep = keeps op t n; at = 0; place = extent_of op t n - left } in
        let is_plan : plan ≡ plan_of op p (InValue t n left) = sym (rw z at (value_goes op p 0 t n left (omega arith))) ∙ at_value op p t n left in
        takes (in_value op t n left) p b no_bytes plan written g b.addresses o None false (no_bytes_held op t n left).1 is_plan (rw (plain op t n q).extent is_g) (none_kept op t n q p b plan refl) is_o (nothing_so b.addresses) nothing_last ∙ feed_taken (in_value op t n left) p b v

    module _ (written : ℕ) (g o : List ℕ) where
      pub inside_ended : left ≤ length p → (report : Report) → report ≡ report_of op t n
          → g ≡ stored (gathers op t n) 0 left (n - left) p b.gathering → Wrote (wrote (forwards op t) no_bytes left p) b.output written o
          → inside_fed (Some (inside_as.Ended left written report)) (lent g b.addresses o) ≡ inside_of op t n left p b
      unfolding inside_in
      inside_ended h report is_report is_g is_o =
          rw is_report (inside_is q (feeding (fresh op) (Ok (taking left written (Some (report_of op t n)))) (lent g b.addresses o)) (inside_ends h written g o is_g is_o))

      pub inside_taken : length p < left → g ≡ stored (gathers op t n) 0 (length p) (n - left) p b.gathering → Wrote (wrote (forwards op t) no_bytes (length p) p) b.output written o
          → inside_fed (Some (inside_as.Took written)) (lent g b.addresses o) ≡ inside_of op t n left p b
      unfolding inside_in
      inside_taken h is_g is_o =
          inside_is q (feeding (in_value op t n (left - length p)) (Ok (taking (length p) written None)) (lent g b.addresses o)) (inside_goes h written g o is_g is_o)

abbrev inside_again : Opening → ℕ → ℕ → ℕ → ℕ → InsideFed → Feeding
inside_again op t n left size f = elim f.answer [
  | None ↦ feeding (fresh op) (Err unmakeable_state) f.buffers
  | (Some (inside_as.Took written)) ↦ feeding (in_value op t n (left - size)) (Ok (taking size written None)) f.buffers
  | (Some (inside_as.Ended consumed written report)) ↦ feeding (fresh op) (Ok (taking consumed written (Some report))) f.buffers
]

module _ (op : Opening) (t n left : ℕ) (p : List ℕ) (b : Lent) where
  inside_by_lem {ℓ} : {X : Type ℓ} → (inside_fed None b ≡ inside_of op t n left p b → X)
      → (inside_again op t n left (length p) (inside_of op t n left p b) ≡ feed_of (in_value op t n left) p b → ((inside_of op t n left p b).answer ≡ None → ⊥)
      → ((written : ℕ) → (inside_of op t n left p b).answer ≡ (Some (inside_as.Took written)) → length p ≤ left) → X)
      → X
  inside_by_lem {X = X} nothing done = go (verdict_of (in_value op t n left) (length p) (length b.gathering) (length b.addresses) (length b.output)) refl
    where
      go : (v : (Result (Unit {0}) Refusal)) → verdict_of (in_value op t n left) (length p) (length b.gathering) (length b.addresses) (length b.output) ≡ v → X
      go (Err why) f = nothing (inside_refused op t n left p b why (sym f))
      go (Ok tt) f = by (is_plain (kind_of op t)) refl
        where
          by : (x : Bool) → is_plain (kind_of op t) ≡ x → X
          by false q = nothing (inside_address op t n left p b q)
          by true q = split left (length p)
              (λ h.
              let w = wrote (forwards op t) no_bytes left p in
              let g = stored (gathers op t n) 0 left (n - left) p b.gathering in
              let o = sets b.output 0 w in
              let taken = inside_ended op t n left p b q f (length w) g o h (report_of op t n) refl refl (record { counted = refl; placed = refl }) in
              done (ap (inside_again op t n left (length p)) (sym taken) ∙ inside_ends op t n left p b q f h (length w) g o refl (record { counted = refl; placed = refl }))
              (λ z. zero_one (cc (ap (λ (x : InsideFed). x.answer) taken ∙ z)))
              (λ written z. zero_one (cc (ap (λ (x : InsideFed). x.answer) taken ∙ z))))
              (λ h.
              let w = wrote (forwards op t) no_bytes (length p) p in
              let g = stored (gathers op t n) 0 (length p) (n - left) p b.gathering in
              let o = sets b.output 0 w in
              let taken = inside_taken op t n left p b q f (length w) g o h refl (record { counted = refl; placed = refl }) in
              done (ap (inside_again op t n left (length p)) (sym taken) ∙ inside_goes op t n left p b q f h (length w) g o refl (record { counted = refl; placed = refl }))
              (λ z. zero_one (cc (ap (λ (x : InsideFed). x.answer) taken ∙ z)))
              (λ written z. omega arith))

  pub inside_not : (d : Lent) → inside_fed None d ≡ inside_of op t n left p b → d ≡ b
  inside_not d q = inside_by_lem (λ z. ap (λ (x : InsideFed). x.buffers) (q ∙ sym z)) (λ a x y. absurd (x (sym (ap (λ (k : InsideFed). k.answer) q))))

  pub inside_fed_lem : (written : ℕ) (d : Lent) → inside_fed (Some (inside_as.Took written)) d ≡ inside_of op t n left p b
      → (length p ≤ left) × (feeding (in_value op t n (left - length p)) (Ok (taking (length p) written None)) d ≡ feed_of (in_value op t n left) p b)
  inside_fed_lem written d q =
      inside_by_lem (λ z. zero_one (cc (ap (λ (x : InsideFed). x.answer) (q ∙ sym z))))
      (λ a x y. (y written (sym (ap (λ (k : InsideFed). k.answer) q)), ap (inside_again op t n left (length p)) q ∙ a))

  pub inside_ended_fed : (consumed written : ℕ) (report : Report) (d : Lent) → inside_fed (Some (inside_as.Ended consumed written report)) d ≡ inside_of op t n left p b
      → feeding (fresh op) (Ok (taking consumed written (Some report))) d ≡ feed_of (in_value op t n left) p b
  inside_ended_fed consumed written report d q =
      inside_by_lem (λ z. zero_one (cc (ap (λ (x : InsideFed). x.answer) (q ∙ sym z)))) (λ a x y. ap (inside_again op t n left (length p)) q ∙ a)
