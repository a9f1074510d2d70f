-- Which values are absent. Assumes nothing.
use Rattle.walks.proofs.Words.{◌≡◌, refl, sym, ap, ◌∙◌, Bool, true, false, cond, false≢true, and-true, and-false, ℕ, List, [], ◌∷◌, ◌++◌, append_assoc, append-nil, eqb-true, ◌⊎◌, inl, inr, ⊎_elim}
use mathlib.Core.Bool.{and-eq-true_iff}
use Rattle.capsule_protocol.proofs.Terms.{Rule, empty, one, every, up_to, ◌then◌, ◌then_many◌, is, is_space, is_lower, is_alpha, is_digit, is_key_start, is_key_byte, is_token_start, is_token_byte, is_bit, sf_integer, sf_decimal, chr, sf_string, sf_token, sf_binary, sf_boolean, bare_item, key, parameters, sf_item, in_use, Stage, Reading, Front, Question, Item, Trailing, Semicolon, Key, Equals, Number, Fraction, Text, Escape, Token, Binary, Boolean, Wrong, at, at_if, within, after_item, after_digits, next_at, next_of, rest_of, rest_at, up_to_after, reading, may_end, In, is_blank, OtherItemsAbsent, ListsAbsent, InnerListsAbsent, OnlyItemsInUse}
use Rattle.capsule_protocol.proofs.Firsts.{bare_item_first}
use Rattle.capsule_protocol.proofs.Steps.{Spaces, digits-end}
use Rattle.capsule_protocol.proofs.Exactly.{or_cases, one_exactly, then_exactly, then_so}
use Rattle.capsule_protocol.proofs.Runs.{run, run-append, run-rest, in_use_run, stays_wrong, spaces_in_front}
use Rattle.capsule_protocol.proofs.Values.{in_use_exactly}

-- a rule, and nothing after it
pub then_end : (x : Rule) (s : List ℕ) → (x then empty) s ≡ x s
unfolding ◌then◌ empty
then_end x [] = and-true (x [])
then_end x (b ∷ s) = rw (and-false (x [])) (then_end (λ t. x (b ∷ t)) s)

-- ---- by the first bytes

-- a value that begins with neither a space nor `?`
first_wrong : (b : ℕ) (t : List ℕ) → is_space b ≡ false → is 0x3f b ≡ false → in_use (b ∷ t) ≡ false
unfolding run next_at at_if
first_wrong b t e f = in_use_run (b ∷ t) ∙ ap (λ (r : Reading). may_end (run r t)) wrong ∙ stays_wrong t
  where
    wrong : next_at Front 0 b ≡ at Wrong
    wrong = rw (e, f)

-- `?` and another byte than `1`
second_wrong : (b : ℕ) (t : List ℕ) → is 0x31 b ≡ false → in_use (0x3f ∷ b ∷ t) ≡ false
unfolding run next_at at_if
second_wrong b t e = in_use_run (0x3f ∷ b ∷ t) ∙ ap (λ (r : Reading). may_end (run r t)) wrong ∙ stays_wrong t
  where
    wrong : next_at Question 0 b ≡ at Wrong
    wrong = rw e

no_item : bare_item [] ≡ false
unfolding bare_item sf_integer sf_decimal sf_string sf_token sf_binary sf_boolean ◌then◌ one up_to every empty
no_item = refl

space_item : (u : List ℕ) → bare_item (0x20 ∷ u) ≡ false
unfolding is_digit is_token_start is_alpha is_lower
space_item u = sym (then_end bare_item (0x20 ∷ u)) ∙ bare_item_first empty 0x20 u

boolean_item : (u : List ℕ) → bare_item (0x3f ∷ u) ≡ one is_bit u
unfolding is_digit is_token_start is_alpha is_lower
boolean_item u = sym (then_end bare_item (0x3f ∷ u)) ∙ bare_item_first empty 0x3f u ∙ then_end (one is_bit) u

-- what begins with a bare item: that is `?1`, or nothing makes the value right
true_or_absent : (b : List ℕ) → In bare_item b → (b ≡ 0x3f ∷ 0x31 ∷ []) ⊎ ((t : List ℕ) → in_use (b ++ t) ≡ false)
true_or_absent [] h = absurd (false≢true (sym no_item ∙ h))
true_or_absent (b ∷ u) h = by_space (is_space b) refl
  where
    by_bit : is 0x3f b ≡ true → (k : ℕ) → u ≡ k ∷ [] → (t : Bool) → is 0x31 k ≡ t → (b ∷ u ≡ 0x3f ∷ 0x31 ∷ []) ⊎ ((t : List ℕ) → in_use ((b ∷ u) ++ t) ≡ false)
    by_bit f k g true e = inl (λ i. eqb-true b 0x3f f i ∷ (g ∙ ap (λ (n : ℕ). n ∷ []) (eqb-true k 0x31 e)) i)
    by_bit f k g false e = inr (λ t. (λ i. in_use (eqb-true b 0x3f f i ∷ (g i ++ t))) ∙ second_wrong k t e)

    by_question : is_space b ≡ false → (t : Bool) → is 0x3f b ≡ t → (b ∷ u ≡ 0x3f ∷ 0x31 ∷ []) ⊎ ((t : List ℕ) → in_use ((b ∷ u) ++ t) ≡ false)
    by_question e true f =
        let k = (one_exactly is_bit u).0 (sym (boolean_item u) ∙ ap (λ (n : ℕ). bare_item (n ∷ u)) (sym (eqb-true b 0x3f f)) ∙ h) in
        by_bit f k.0 k.2 (is 0x31 k.0) refl
    by_question e false f = inr (λ t. first_wrong b (u ++ t) e f)

    by_space : (t : Bool) → is_space b ≡ t → (b ∷ u ≡ 0x3f ∷ 0x31 ∷ []) ⊎ ((t : List ℕ) → in_use ((b ∷ u) ++ t) ≡ false)
    by_space true e = absurd (false≢true (sym (space_item u) ∙ ap (λ (n : ℕ). bare_item (n ∷ u)) (sym (eqb-true b 0x20 e)) ∙ h))
    by_space false e = by_question e (is 0x3f b) refl

pub other_items_absent : OtherItemsAbsent
other_items_absent i b t h n = spaces_in_front i (b ++ t) ∙ ⊎_elim (λ e. absurd (n e)) (λ f. f t) (true_or_absent b h)

pub inner_lists_absent : InnerListsAbsent
inner_lists_absent i t = spaces_in_front i (0x28 ∷ t) ∙ first_wrong 0x28 t refl refl

-- ---- a comma after the item

nothing-more : Spaces empty
unfolding empty
nothing-more = record { first = λ b s. sym (and-false (is_space b)); second = λ b s. sym (and-false (is_space b)) }

-- where the parameters may end, there is no way on with a comma or a tab, and with a space only to the end
pub record Ended (r : Reading) : Type 0 where
  pub comma : next_of r 0x2c ≡ at Wrong
  pub space : next_of r 0x20 ≡ at Trailing
  pub tab : next_of r 0x09 ≡ at Wrong

ended : (r : Reading) → rest_of empty r [] ≡ true → Ended r
unfolding rest_at next_at at_if after_item after_digits ◌then◌ ◌then_many◌ empty one every up_to parameters key bare_item sf_integer sf_decimal sf_string sf_token sf_binary sf_boolean chr is_key_byte is_key_start is_token_byte is_token_start is_alpha is_lower is_digit
ended r h = go r.stage r.digits h
  where
    wrong : {X : Type 0} → false ≡ true → X
    wrong e = absurd (false≢true e)

    decimals : Rule
    decimals = one (is 0x2e) then up_to 3 is_digit then parameters then empty

    counted : (n most : ℕ) (y : Rule) (t : Reading) → (up_to_after n most is_digit then y) [] ≡ true → cond (within n most) t (at Wrong) ≡ t
    counted n most y t e = rw ((and-eq-true_iff (within n most) (y [])).0 (sym (digits-end most n y) ∙ e)).0

    go : (stage : Stage) (n : ℕ) → rest_at empty stage n [] ≡ true → Ended (reading stage n)
    go Front n h = wrong h
    go Question n h = wrong h
    go Item n h = record { comma = refl; space = refl; tab = refl }
    go Trailing n h = wrong h
    go Semicolon n h = wrong h
    go Key n h = record { comma = refl; space = refl; tab = refl }
    go Equals n h = wrong h
    go Number n h =
        or_cases ((up_to_after n 15 is_digit then parameters then empty) []) ((up_to_after n 12 is_digit then decimals) [])
        (λ e. record { comma = counted n 15 (parameters then empty) (at Wrong) e; space = counted n 15 (parameters then empty) (at Trailing) e; tab = counted n 15 (parameters then empty) (at Wrong) e })
        (λ e. wrong ((and-eq-true_iff (within n 12) (decimals [])).0 (sym (digits-end 12 n decimals) ∙ e)).1)
        h
    go Fraction n h = record { comma = counted n 3 (parameters then empty) (at Wrong) h; space = counted n 3 (parameters then empty) (at Trailing) h; tab = counted n 3 (parameters then empty) (at Wrong) h }
    go Text n h = wrong h
    go Escape n h = wrong h
    go Token n h = record { comma = refl; space = refl; tab = refl }
    go Binary n h = wrong h
    go Boolean n h = wrong h
    go Wrong n h = wrong h

to_the_end : Ended (at Trailing)
unfolding next_at at_if
to_the_end = record { comma = refl; space = refl; tab = refl }

comma_wrong : (r : Reading) → Ended r → (w t : List ℕ) → In (every is_blank) w → may_end (run r (w ++ (0x2c ∷ t))) ≡ false
unfolding run every
comma_wrong r d [] t h = ap (λ (q : Reading). may_end (run q t)) d.comma ∙ stays_wrong t
comma_wrong r d (b ∷ w) t h = go (is_space b) refl (comma_wrong (at Trailing) to_the_end w t ((and-eq-true_iff (is_blank b) (every is_blank w)).0 h).1)
  where
    go : (t₁ : Bool) → is_space b ≡ t₁ → may_end (run (at Trailing) (w ++ (0x2c ∷ t))) ≡ false → may_end (run (next_of r b) (w ++ (0x2c ∷ t))) ≡ false
    go true e after = ap (λ (q : Reading). may_end (run q (w ++ (0x2c ∷ t)))) (ap (next_of r) (eqb-true b 0x20 e) ∙ d.space) ∙ after
    go false e after =
        let k : is 0x09 b ≡ true = (rw e at ((and-eq-true_iff (is_blank b) (every is_blank w)).0 h).0) in
        ap (λ (q : Reading). may_end (run q (w ++ (0x2c ∷ t)))) (ap (next_of r) (eqb-true b 0x09 k) ∙ d.tab) ∙ stays_wrong (w ++ (0x2c ∷ t))

after-parameters : (p w t : List ℕ) → In parameters p → In (every is_blank) w → in_use (0x3f ∷ 0x31 ∷ (p ++ (w ++ (0x2c ∷ t)))) ≡ false
unfolding run next_at at_if rest_at
after-parameters p w t h k =
    in_use_run (0x3f ∷ 0x31 ∷ (p ++ (w ++ (0x2c ∷ t))))
    ∙ ap may_end (run-append (at Item) p (w ++ (0x2c ∷ t)))
    ∙ comma_wrong (run (at Item) p) (ended _ (sym (run-rest empty nothing-more (at Item) p []) ∙ ap (λ (s : List ℕ). (parameters then empty) s) (append-nil p) ∙ then_end parameters p ∙ h)) w t k

pub lists_absent : ListsAbsent
unfolding sf_item
lists_absent i a w t h k =
    let c = (then_exactly bare_item parameters a).0 h in
    spaces_in_front i (a ++ (w ++ (0x2c ∷ t)))
    ∙ ap (λ (s : List ℕ). in_use (s ++ (w ++ (0x2c ∷ t)))) c.2
    ∙ ap in_use (append_assoc c.0 c.1 (w ++ (0x2c ∷ t)))
    ∙ ⊎_elim
    (λ e. ap (λ (s : List ℕ). in_use (s ++ (c.1 ++ (w ++ (0x2c ∷ t))))) e ∙ after-parameters c.1 w t c.4 k)
    (λ f. f (c.1 ++ (w ++ (0x2c ∷ t))))
    (true_or_absent c.0 c.3)

-- ---- what is no item

true_bare : In bare_item (0x3f ∷ 0x31 ∷ [])
unfolding is_bit one empty
true_bare = boolean_item (0x31 ∷ [])

pub only_items_in_use : OnlyItemsInUse
unfolding sf_item
only_items_in_use s h =
    let k = (in_use_exactly s).0 h in
    (k.0, k.1, 0x3f ∷ 0x31 ∷ k.2, k.3, then_so bare_item parameters (0x3f ∷ 0x31 ∷ []) k.2 true_bare k.4)
