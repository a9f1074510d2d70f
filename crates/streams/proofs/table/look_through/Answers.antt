-- One record more; after the last, what all records say.
use Rattle.walks.proofs.Words.{arith, refl, sym, subst, ◌∙◌, ◌≡◌, ◌≤◌, ℕ, List, Bool, length, take, length-take-le, get_or-take, ◌<◌}
use Rattle.streams.proofs.Terms.{Survey, blank, Table, Occupied, Surveyed, fitting, fits-within, surveyed_first, surveyed_used, surveyed_free, surveyed_end, stands-any}
use Rattle.streams.proofs.table.look_through.Goals as goal
use Rattle.streams.proofs.table.look_through.Goals.{then-is_used, then-seen-b, else-seen-b, else-is_used}

pub occupied-end-requires : goal.occupied-end-requires
occupied-end-requires c = omega (arith, c.fitting.ensures, fits-within (length c.args.rows.now))

-- as many are looked through as `occupied` answers
all_of : (t : Table) (end : ℕ) → end ≤ fitting (length t) → length (take end t) ≡ end
all_of t end l = length-take-le end t (omega (arith, fits-within (length t)))

pub slice_bounds-record-items-end : goal.slice_bounds-record-items-end
slice_bounds-record-items-end c =
    let l : c.occupied-end.result ≤ fitting (length c.args.rows.now) = omega (arith, c.fitting.ensures, c.occupied-end.ensures.within) in
    sym (all_of c.args.rows.now c.occupied-end.result l)

pub loop-i-init : goal.loop-i-init
loop-i-init c =
    let o = subst (λ (n : ℕ). Occupied c.args.rows.now n c.occupied-end.result) c.fitting.ensures (c.occupied-end.ensures.within, c.occupied-end.ensures.blank) in
    (o, surveyed_first c.args.quarter.0 c.args.rows.now _ o _ _ refl c.nothing_seen-known.ensures)

-- by equations of what the branch leaves
with_these : (q : ℕ) (t : Table) (end : ℕ) (o : Occupied t (fitting (length t)) end) (seen seen' : List Bool) (s s' : Survey) (i : ℕ) → seen ≡ seen' → s ≡ s' → Surveyed q t end o seen' s' i → Surveyed q t end o seen s i
with_these q t end o seen seen' s s' i e f h = rw (e, f) h

pub loop-i-preserved : goal.loop-i-preserved
loop-i-preserved c =
    let q = c.args.quarter.0 in
    let t = c.args.rows.now in
    let i = c.loop-i.invariant in
    let below : c.loop-i.i < c.occupied-end.result = omega (arith, all_of t c.occupied-end.result i.0.0, c.loop-i-test.true) in
    let e = get_or-take c.occupied-end.result t c.loop-i.i blank below in
    elim c.if-is_used.branch [
      | then-is_used w ↦ (
        i.0,
        with_these q t _ i.0 _ _ _ _ _ w.seen-is w.known-is
            (surveyed_used q t _ i.0 c.loop-i.seen c.loop-i.known _ c.loop-i.i below i.1 _ e w.bucket-b.result w.bucket-b.ensures.0 _ (sym c.is_used.ensures ∙ w.if-is_used.true)
            (elim w.if-seen-b.branch [
              | then-seen-b w' ↦ rw w'.if-seen-b.true (w'.again-is ∙ w'.stands_below-again.ensures ∙ sym (stands-any _ _))
              | else-seen-b w' ↦ rw w'.if-seen-b.false (w'.again-is ∙ w'.if-seen-b.false)
            ])
            w.look_used-known.ensures),
      )
      | else-is_used w ↦ (
        i.0,
        with_these q t _ i.0 _ _ _ _ _ w.seen-is w.known-is
            (surveyed_free q t _ i.0 c.loop-i.seen c.loop-i.known _ c.loop-i.i below i.1 _ e (sym c.is_used.ensures ∙ w.if-is_used.false) w.look_free-known.ensures),
      )
    ]

pub returns : goal.returns
returns c = surveyed_end c.args.quarter.0 c.args.rows.now _ c.loop-i.invariant.0 _ _ c.loop-i.i
    (omega (arith, all_of c.args.rows.now c.occupied-end.result c.loop-i.invariant.0.0, c.loop-i-test.false)) c.loop-i.invariant.1
