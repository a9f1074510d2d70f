-- The rule that an answer is numbered by is the first of document 01's list whose condition holds. Assumes nothing.
use Rattle.std.specs.Prelude.{Option, Some, None, Result, Ok, Err}
use Rattle.short_forms.specs.Short.{varint_of}
use Rattle.walks.proofs.Words.{◌≡◌, refl, sym, ap, subst, ◌∙◌, ℕ, ◌-◌, ◌^◌, ◌≤◌, ◌<◌, arith, Bool, true, false, cond, ◌↔◌, List, length, get_or, drop, leb, ltb, ltb-true, ltb-false}
use Rattle.judging.proofs.Terms.{Refusal, Order, First, Refuses, limit_too_large, number_too_large, bad_table, Unless, unless_false, unless_above, stops, goes_on, stops_unless, Varint, read_varint, whole_same, largest_quarter, StreamRecord, blank, receive_open, has_semantics, Table, is_bad, find, entry_at, InTable, Any, in_table, not_in_table_lem, at_place, Judged, quarter, judged_record, judged_entry, judged_read, judged_of, rule_of, QuarterRead, rules, Judges}
use Rattle.judging.proofs.Answers.{no_some, one}

abbrev Rule : Judged → ℕ → Type 0
Rule j n = rule_of (Ok j) ≡ Some n

is : (k n : ℕ) → (Some k ≡ Some n) ↔ (n ≡ k)
is k n = (λ e. sym (one k n e), λ e. ap Some (sym e))

unless_so : {test : Bool} {C D : Type 0} → C ↔ D → Unless test C → Unless test D
unless_so h u = record { on = λ e. h.0 (u.on e); off = λ e d. u.off e (h.1 d) }

unless_from : (a b : ℕ) → Unless (ltb a b) (b ≤ a)
unless_from a b = record { on = ltb-false a b; off = λ e h. let l : a < b = ltb-true a b e in omega arith }

-- ---- the rules, of a good table

not_short {ℓ} : {X : Type ℓ} {q size : ℕ} → None ≡ Some (varint_of q size) → X
not_short e = let z : ◌≡◌ {A = ℕ} 0 1 = cc in absurd (let n : ⊥ = omega arith in n)

module _ (t : Table) (streams limit : ℕ) (frame : List ℕ) (good : is_bad t ≡ false) where
  module _ (q size : ℕ) (read : read_varint frame ≡ Some (varint_of q size)) where
    abbrev rest : ℕ
    rest = length frame - size

    -- what was read is this quarter, and no other
    of_read : (P : ℕ → ℕ → Type 0) → P q rest ↔ QuarterRead frame P
    of_read P = (
      λ p. (q, size, read, p),
      λ r.
          let e : Some (varint_of q size) ≡ Some (varint_of r.0 r.1) = sym read ∙ r.2 in
          let same = whole_same e in
          let a = sym same.0 in
          let b = sym same.1 in
          subst (λ (s : ℕ). P q (length frame - s)) b (subst (λ (x : ℕ). P x (length frame - r.1)) a r.3),
    )

    -- of the record at the place that was found
    of_record : (i : ℕ) → find q t ≡ Some i → (P : StreamRecord → Type 0) → P (get_or t i blank) ↔ QuarterRead frame (λ x rest. InTable t x P)
    of_record i f P =
        let a = at_place t q P i good f in
        let b = of_read (λ x rest. InTable t x P) in
        (λ p. b.0 (a.1 p), λ r. a.0 (b.1 r))

    -- rules 5 to 8
    record_rule : (i : ℕ) → find q t ≡ Some i → Refuses (Rule (judged_record (get_or t i blank) (quarter q) i limit rest)) (drop 4 (rules t streams limit frame))
    unfolding judged_record rule_of
    record_rule i f =
        let r = get_or t i blank in
        stops_unless Rule (unless_so (of_record i f (λ r. receive_open r ≡ false)) (unless_false (receive_open r))) (is 5) (λ _.
        stops_unless Rule (unless_so (of_record i f (λ r. has_semantics r ≡ false)) (unless_false (has_semantics r))) (is 6) (λ _.
        stops_unless Rule (unless_so (of_read (λ q rest. limit < rest)) (unless_above rest limit)) (is 7) (λ _. stops tt (is 8))))

    -- rule 4 and those after it
    entry_rule : (f : Option ℕ) → find q t ≡ f → Refuses (Rule (judged_entry (entry_at t f) q limit rest)) (drop 3 (rules t streams limit frame))
    unfolding judged_entry entry_at rule_of
    entry_rule None e = stops ((of_read (λ x rest. InTable t x Any → ⊥)).0 (not_in_table_lem t q Any e)) (is 4)
    entry_rule (Some i) e = goes_on (λ c. (of_read (λ x rest. InTable t x Any → ⊥)).1 c (in_table t q Any i e tt)) (record_rule i e)

  read_rule : (v : Option Varint) → read_varint frame ≡ v → Refuses (Rule (judged_read t streams limit (length frame) v)) (rules t streams limit frame)
  unfolding judged_read largest_quarter rule_of
  read_rule None e = stops e (is 1)
  read_rule (Some read) e =
      goes_on (λ s. not_short (sym s ∙ e))
      (stops_unless Rule (unless_so (of_read read.value read.size e (λ q rest. 2 ^ 60 - 1 < q)) (unless_above read.value (2 ^ 60 - 1))) (is 2) (λ _.
      stops_unless Rule (unless_so (of_read read.value read.size e (λ q rest. streams ≤ q)) (unless_from read.value streams)) (is 3) (λ _. entry_rule read.value read.size e (find read.value t) refl)))

-- ---- the rules, after the refusals

module _ (order : Order) where
  abbrev Numbered : Result Judged Refusal → Type 0
  Numbered j = (n : ℕ) → (rule_of j ≡ Some n) ↔ ((why : Refusal) → j ≡ Err why → ⊥) × First n order

  refused : (why : Refusal) → Numbered (Err why)
  unfolding rule_of
  refused why n = (λ e. no_some e, λ h. absurd (h.0 why refl))

  by_rule : (j : Judged) → Refuses (Rule j) order → Numbered (Ok j)
  unfolding rule_of
  by_rule j r n = (λ e. (λ why d. no_some (sym (ap rule_of d) ∙ e), (r.exactly n).0 e), λ h. (r.exactly n).1 h.1)

  choice : (b : Bool) (x y : Result Judged Refusal) → (b ≡ true → Numbered x) → (b ≡ false → Numbered y) → Numbered (cond b x y)
  choice true x y u v = u refl
  choice false x y u v = v refl

pub judged_rule : (t : Table) (streams limit : ℕ) (frame : List ℕ) → Judges t streams limit frame (judged_of t streams limit frame)
unfolding judged_of
judged_rule t streams limit frame =
    let order = rules t streams limit frame in
    record {
      answer = refl;
      rule = choice order (is_bad t) _ _ (λ _. refused order bad_table) (λ good.
          choice order (leb limit 65535) _ _ (λ _.
          choice order (leb streams (2 ^ 60)) _ _ (λ _. by_rule order _ (read_rule t streams limit frame good (read_varint frame) refl)) (λ _. refused order number_too_large)) (λ _. refused order limit_too_large));
    }

pub judged_so_lem : (t : Table) (streams limit : ℕ) (frame : List ℕ) (j : Result Judged Refusal) → j ≡ judged_of t streams limit frame → Judges t streams limit frame j
judged_so_lem t streams limit frame j e = subst (Judges t streams limit frame) (sym e) (judged_rule t streams limit frame)
