-- The fast paths of a feeding: where one answers None, the buffers are as they were lent; whatever else it answers is the feeding. Assumes nothing.
use Rattle.std.specs.Prelude.{Option, Some, None, Result, Ok, Err}
use Rattle.refusals.specs.declared.Refusal.{Refusal}
use Rattle.capsule.specs.declared.reader.Advance.{Advance}
use Rattle.walks.proofs.Words.{◌≡◌, refl, sym, ℕ, ◌<◌, arith, Bool, true, false, List, [], ◌∷◌, get_or}
use Rattle.fast_paths.proofs.Terms.{Bytes, Report, Phase, InType, InLength, InValue, kind_of, Lent, fresh, feed_of, short_header, is_plain, is_short, whole_after, whole_in, whole_of, inside_after, inside_in, inside_of, zero_one, NotUnchanged, WholeFeeds, InsideFeeds, in_value}
use Rattle.fast_paths.proofs.FastPaths.{whole-fed, whole_cut_fed, inside_fed_lem, inside_ended_fed}

whole-rows : (b : Lent) (a : Result Advance Refusal) (phase : Phase) (after : Lent) → (whole_in b a phase after).answer ≡ None → (whole_in b a phase after).buffers ≡ b
unfolding whole_in
whole-rows b (Err r) phase after e = refl
whole-rows b (Ok a) phase after e = go a.ended phase e
  where
    go : (ended : Option Report) (phase : Phase) → let w = whole_after b a.consumed a.written ended phase after in w.answer ≡ None → w.buffers ≡ b
    go (Some r) phase e = zero_one cc
    go None (InType part) e = refl
    go None (InLength t part) e = refl
    go None (InValue t n left) e = zero_one cc

inside_rows : (b : Lent) (a : Result Advance Refusal) (after : Lent) → (inside_in b a after).answer ≡ None → (inside_in b a after).buffers ≡ b
unfolding inside_in
inside_rows b (Err r) after e = refl
inside_rows b (Ok a) after e = go a.ended e
  where
    go : (ended : Option Report) → let w = inside_after a.consumed a.written ended after in w.answer ≡ None → w.buffers ≡ b
    go None e = zero_one cc
    go (Some r) e = zero_one cc

pub not_unchanged : NotUnchanged
not_unchanged op p b = (whole (is_short op (short_header p)) refl, λ t n left. inside t n left (is_plain (kind_of op t)) refl)
  where
    whole : (x : Bool) → is_short op (short_header p) ≡ x → (whole_of op p b).answer ≡ None → (whole_of op p b).buffers ≡ b
    whole true q = unfold whole_of in rw q (let f = feed_of (fresh op) p b in whole-rows b f.answer f.reader.phase f.buffers)
    whole false q = unfold whole_of in rw q (λ e. refl)

    inside : (t n left : ℕ) (x : Bool) → is_plain (kind_of op t) ≡ x → (inside_of op t n left p b).answer ≡ None → (inside_of op t n left p b).buffers ≡ b
    inside t n left true q = unfold inside_of in rw q (let f = feed_of (in_value op t n left) p b in inside_rows b f.answer f.buffers)
    inside t n left false q = unfold inside_of in rw q (λ e. refl)

-- ---- what else they answer

third : (p : List ℕ) → Bytes p → get_or p 2 0 < 256
third [] w = omega arith
third (x ∷ []) w = omega arith
third (x ∷ y ∷ []) w = omega arith
third (x ∷ y ∷ z ∷ p) w = w.1.1.0

pub whole_feeds : WholeFeeds
whole_feeds op p b w =
    let d = (whole_of op p b).buffers in (
      λ consumed written r e. sym (whole-fed op p b (third p w) consumed written r d (λ i. record { answer = sym e i; buffers = d })),
      λ written t n left e. sym (whole_cut_fed op p b (third p w) written t n left d (λ i. record { answer = sym e i; buffers = d })),
    )

pub inside_feeds : InsideFeeds
inside_feeds op t n left p b =
    let d = (inside_of op t n left p b).buffers in (
      λ written e. sym (inside_fed_lem op t n left p b written d (λ i. record { answer = sym e i; buffers = d })).1,
      λ consumed written r e. sym (inside_ended_fed op t n left p b consumed written r d (λ i. record { answer = sym e i; buffers = d })),
    )
