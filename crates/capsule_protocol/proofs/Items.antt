-- RFC 8941's rules in words. Assumes nothing.
use Rattle.walks.proofs.Words.{◌≡◌, refl, sym, ap, subst, ◌∙◌, ◌↔◌, ◌⊎◌, inl, inr, ⊎_elim, iff_rfl, Bool, true, ◌||◌, or-true, ℕ, List, [], ◌∷◌, ◌++◌, length, append-nil, eqb-true, eq-eqb}
use Rattle.capsule_protocol.proofs.Terms.{Rule, Class, one, every, up_to, optional, ◌then◌, many, is, is_space, is_digit, is_key_start, is_key_byte, is_unescaped, is_escapable, is_token_start, is_token_byte, is_base64, is_bit, sf_integer, sf_decimal, chr, sf_string, sf_token, sf_binary, sf_boolean, bare_item, key, parameter, parameters, sf_item, spaces, In, joined, AllIn, Digits, Signed, IntegerExactly, DecimalExactly, CharacterExactly, StringExactly, TokenExactly, ByteSequenceExactly, BooleanExactly, BareItemExactly, KeyExactly, ParameterExactly, AllParameters, ParametersExactly, ItemExactly}
use Rattle.capsule_protocol.proofs.Exactly.{only_spaces, spaces_only, or_cases, empty_exactly, one_exactly, up_to_exactly, then_exactly, then_so, many_exactly}

-- ---- alternatives

or_exactly : (a b : Bool) → (a || b ≡ true) ↔ ((a ≡ true) ⊎ (b ≡ true))
or_exactly a b = (or_cases a b inl inr, ⊎_elim (λ e. rw e) (λ e. rw (e, or-true a)))

-- one of two, each in words
either : {A B : Type 0} (a b : Bool) → (a ≡ true) ↔ A → (b ≡ true) ↔ B → (a || b ≡ true) ↔ (A ⊎ B)
either a b h k = (λ e. ⊎_elim (λ f. inl (h.0 f)) (λ f. inr (k.0 f)) ((or_exactly a b).0 e), λ c. (or_exactly a b).1 (⊎_elim (λ f. inl (h.1 f)) (λ f. inr (k.1 f)) c))

-- ---- a byte in front or at the end

headed : (p : Class) (y : Rule) (s : List ℕ) → In (one p then y) s ↔ ((b : ℕ) × (t : List ℕ) × (s ≡ b ∷ t) × (p b ≡ true) × In y t)
headed p y s = (
  λ e.
      let h = (then_exactly (one p) y s).0 e in
      let b = (one_exactly p h.0).0 h.3 in
      (b.0, h.1, h.2 ∙ ap (λ (t : List ℕ). t ++ h.1) b.2, b.1, h.4),
  λ h. (then_exactly (one p) y s).1 (h.0 ∷ [], h.1, h.2, (one_exactly p (h.0 ∷ [])).1 (h.0, h.3, refl), h.4),
)

-- this byte in front
led : (k : ℕ) (y : Rule) (s : List ℕ) → In (one (is k) then y) s ↔ ((t : List ℕ) × (s ≡ k ∷ t) × In y t)
led k y s = (
  λ e. let h = (headed (is k) y s).0 e in (h.1, h.2 ∙ ap (λ (b : ℕ). b ∷ h.1) (eqb-true h.0 k h.3), h.4),
  λ h. (headed (is k) y s).1 (k, h.0, h.1, eq-eqb k k refl, h.2),
)

-- this byte alone
this_one : (k : ℕ) (s : List ℕ) → In (one (is k)) s ↔ (s ≡ k ∷ [])
this_one k s = (
  λ e. let h = (one_exactly (is k) s).0 e in h.2 ∙ ap (λ (b : ℕ). b ∷ []) (eqb-true h.0 k h.1),
  λ e. (one_exactly (is k) s).1 (k, eq-eqb k k refl, e),
)

closed : (k : ℕ) (y : Rule) (s : List ℕ) → In (y then one (is k)) s ↔ ((t : List ℕ) × (s ≡ t ++ (k ∷ [])) × In y t)
closed k y s = (
  λ e. let h = (then_exactly y (one (is k)) s).0 e in (h.0, h.2 ∙ ap (λ (t : List ℕ). h.0 ++ t) ((this_one k h.1).0 h.4), h.3),
  λ h. (then_exactly y (one (is k)) s).1 (h.0, k ∷ [], h.1, h.2, (this_one k (k ∷ [])).1 refl),
)

-- ---- numbers

signed : (y : Rule) (s : List ℕ) → In (optional (one (is 0x2d)) then y) s ↔ ((t : List ℕ) × Signed s t × In y t)
signed y s = (only, so)
  where
    only : In (optional (one (is 0x2d)) then y) s → (t : List ℕ) × Signed s t × In y t
    only e =
        let h = (then_exactly (optional (one (is 0x2d))) y s).0 e in (
          h.1,
          ⊎_elim
              (λ f. inl (h.2 ∙ ap (λ (t : List ℕ). t ++ h.1) f))
              (λ f. inr (h.2 ∙ ap (λ (t : List ℕ). t ++ h.1) f))
              ((either _ _ (empty_exactly h.0) (this_one 0x2d h.0)).0 h.3),
          h.4,
        )

    so : ((t : List ℕ) × Signed s t × In y t) → In (optional (one (is 0x2d)) then y) s
    so h = ⊎_elim
        (λ f. (then_exactly (optional (one (is 0x2d))) y s).1 ([], h.0, f, (either _ _ (empty_exactly []) (this_one 0x2d [])).1 (inl refl), h.2))
        (λ f. (then_exactly (optional (one (is 0x2d))) y s).1 (0x2d ∷ [], h.0, f, (either _ _ (empty_exactly (0x2d ∷ [])) (this_one 0x2d (0x2d ∷ []))).1 (inr refl), h.2))
        h.1

pub integer_exactly : IntegerExactly
unfolding sf_integer
integer_exactly s = (
  λ e. let h = (signed (up_to 15 is_digit) s).0 e in (h.0, h.1, (up_to_exactly 15 is_digit h.0).0 h.2),
  λ h. (signed (up_to 15 is_digit) s).1 (h.0, h.1, (up_to_exactly 15 is_digit h.0).1 h.2),
)

pub decimal_exactly : DecimalExactly
unfolding sf_decimal
decimal_exactly s = (only, so)
  where
    after : Rule
    after = one (is 0x2e) then up_to 3 is_digit

    only : In sf_decimal s → (d : List ℕ) × (f : List ℕ) × Signed s (d ++ (0x2e ∷ f)) × Digits 12 d × Digits 3 f
    only e =
        let h = (signed (up_to 12 is_digit then after) s).0 e in
        let k = (then_exactly (up_to 12 is_digit) after h.0).0 h.2 in
        let f = (led 0x2e (up_to 3 is_digit) k.1).0 k.4 in
        (k.0, f.0, subst (Signed s) (k.2 ∙ ap (λ (t : List ℕ). k.0 ++ t) f.1) h.1, (up_to_exactly 12 is_digit k.0).0 k.3, (up_to_exactly 3 is_digit f.0).0 f.2)

    so : ((d : List ℕ) × (f : List ℕ) × Signed s (d ++ (0x2e ∷ f)) × Digits 12 d × Digits 3 f) → In sf_decimal s
    so h =
        (signed (up_to 12 is_digit then after) s).1 (
          h.0 ++ (0x2e ∷ h.1),
          h.2,
          then_so (up_to 12 is_digit) after h.0 (0x2e ∷ h.1) ((up_to_exactly 12 is_digit h.0).1 h.3)
              ((led 0x2e (up_to 3 is_digit) (0x2e ∷ h.1)).1 (h.1, refl, (up_to_exactly 3 is_digit h.1).1 h.4)),
        )

-- ---- strings, tokens, byte sequences, Booleans

pub character_exactly : CharacterExactly
unfolding chr
character_exactly s = (only, so)
  where
    only : In chr s → (b : ℕ) × (((is_unescaped b ≡ true) × (s ≡ b ∷ [])) ⊎ ((is_escapable b ≡ true) × (s ≡ 0x5c ∷ b ∷ [])))
    only e = ⊎_elim
        (λ f. let h = (one_exactly is_unescaped s).0 f in (h.0, inl (h.1, h.2)))
        (λ f. let h = (led 0x5c (one is_escapable) s).0 f in let b = (one_exactly is_escapable h.0).0 h.2 in (b.0, inr (b.1, h.1 ∙ ap (λ (t : List ℕ). 0x5c ∷ t) b.2)))
        ((or_exactly (one is_unescaped s) _).0 e)

    so : ((b : ℕ) × (((is_unescaped b ≡ true) × (s ≡ b ∷ [])) ⊎ ((is_escapable b ≡ true) × (s ≡ 0x5c ∷ b ∷ [])))) → In chr s
    so h = (or_exactly (one is_unescaped s) _).1 (⊎_elim
        (λ k. inl ((one_exactly is_unescaped s).1 (h.0, k.0, k.1)))
        (λ k. inr ((led 0x5c (one is_escapable) s).1 (h.0 ∷ [], k.1, (one_exactly is_escapable (h.0 ∷ [])).1 (h.0, k.0, refl))))
        h.1)

-- between two bytes of a kind
between : (k : ℕ) (y : Rule) (s : List ℕ) → In (one (is k) then y then one (is k)) s ↔ ((t : List ℕ) × (s ≡ k ∷ (t ++ (k ∷ []))) × In y t)
between k y s = (
  λ e.
      let h = (led k (y then one (is k)) s).0 e in
      let c = (closed k y h.0).0 h.2 in
      (c.0, h.1 ∙ ap (λ (t : List ℕ). k ∷ t) c.1, c.2),
  λ h. (led k (y then one (is k)) s).1 (h.0 ++ (k ∷ []), h.1, (closed k y (h.0 ++ (k ∷ []))).1 (h.0, refl, h.2)),
)

pub string_exactly : StringExactly
unfolding sf_string
string_exactly s = (
  λ e.
      let h = (between 0x22 (many chr) s).0 e in
      let l = (many_exactly chr h.0).0 h.2 in
      (l.0, h.1 ∙ ap (λ (t : List ℕ). 0x22 ∷ (t ++ (0x22 ∷ []))) l.1, l.2),
  λ h. (between 0x22 (many chr) s).1 (joined h.0, h.1, (many_exactly chr (joined h.0)).1 (h.0, refl, h.2)),
)

pub token_exactly : TokenExactly
unfolding sf_token
token_exactly s = headed is_token_start (every is_token_byte) s

pub byte_sequence_exactly : ByteSequenceExactly
unfolding sf_binary
byte_sequence_exactly s = between 0x3a (every is_base64) s

pub boolean_exactly : BooleanExactly
unfolding sf_boolean is_bit
boolean_exactly s = (only, ⊎_elim (so 0x30 refl) (so 0x31 refl))
  where
    only : In sf_boolean s → (s ≡ 0x3f ∷ 0x30 ∷ []) ⊎ (s ≡ 0x3f ∷ 0x31 ∷ [])
    only e =
        let h = (led 0x3f (one is_bit) s).0 e in
        let b = (one_exactly is_bit h.0).0 h.2 in
        ⊎_elim
        (λ f. inl (h.1 ∙ ap (λ (t : List ℕ). 0x3f ∷ t) b.2 ∙ ap (λ (n : ℕ). 0x3f ∷ n ∷ []) (eqb-true b.0 0x30 f)))
        (λ f. inr (h.1 ∙ ap (λ (t : List ℕ). 0x3f ∷ t) b.2 ∙ ap (λ (n : ℕ). 0x3f ∷ n ∷ []) (eqb-true b.0 0x31 f)))
        ((or_exactly (is 0x30 b.0) (is 0x31 b.0)).0 b.1)

    so : (b : ℕ) → is_bit b ≡ true → s ≡ 0x3f ∷ b ∷ [] → In sf_boolean s
    so b f e = (led 0x3f (one is_bit) s).1 (b ∷ [], e, (one_exactly is_bit (b ∷ [])).1 (b, f, refl))

pub bare_item_exactly : BareItemExactly
unfolding bare_item
bare_item_exactly s = either _ _ iff_rfl (either _ _ iff_rfl (either _ _ iff_rfl (either _ _ iff_rfl (either _ _ iff_rfl iff_rfl))))

-- ---- parameters

pub key_exactly : KeyExactly
unfolding key
key_exactly s = headed is_key_start (every is_key_byte) s

pub parameter_exactly : ParameterExactly
unfolding parameter
parameter_exactly s = (only, so)
  where
    value : Rule
    value = one (is 0x3d) then bare_item

    only : In parameter s → In key s ⊎ ((k : List ℕ) × (b : List ℕ) × (s ≡ k ++ (0x3d ∷ b)) × In key k × In bare_item b)
    only e =
        let h = (then_exactly key (optional value) s).0 e in
        ⊎_elim
        (λ f. inl (subst (In key) (sym (append-nil h.0) ∙ ap (λ (t : List ℕ). h.0 ++ t) (sym f) ∙ sym h.2) h.3))
        (λ f. inr (h.0, f.0, h.2 ∙ ap (λ (t : List ℕ). h.0 ++ t) f.1, h.3, f.2))
        ((either _ _ (empty_exactly h.1) (led 0x3d bare_item h.1)).0 h.4)

    so : In key s ⊎ ((k : List ℕ) × (b : List ℕ) × (s ≡ k ++ (0x3d ∷ b)) × In key k × In bare_item b) → In parameter s
    so = ⊎_elim
        (λ f. (then_exactly key (optional value) s).1 (s, [], sym (append-nil s), f, (either _ _ (empty_exactly []) (led 0x3d bare_item [])).1 (inl refl)))
        (λ h. (then_exactly key (optional value) s).1 (h.0, 0x3d ∷ h.1, h.2, h.3, (either _ _ (empty_exactly (0x3d ∷ h.1)) (led 0x3d bare_item (0x3d ∷ h.1))).1 (inr (h.1, refl, h.4))))

preceded : (t : List ℕ) → In (one (is 0x3b) then every is_space then parameter) t ↔ ((n : ℕ) × (q : List ℕ) × (t ≡ 0x3b ∷ (spaces n ++ q)) × In parameter q)
preceded t = (
  λ e.
      let h = (led 0x3b (every is_space then parameter) t).0 e in
      let k = (then_exactly (every is_space) parameter h.0).0 h.2 in
      (length k.0, k.1, h.1 ∙ ap (λ (u : List ℕ). 0x3b ∷ u) (k.2 ∙ ap (λ (u : List ℕ). u ++ k.1) (only_spaces k.0 k.3)), k.4),
  λ h. (led 0x3b (every is_space then parameter) t).1 (spaces h.0 ++ h.1, h.2, then_so (every is_space) parameter (spaces h.0) h.1 (spaces_only h.0) h.3),
)

all_only : (l : List (List ℕ)) → AllIn (one (is 0x3b) then every is_space then parameter) l → AllParameters l
all_only [] h = tt
all_only (t ∷ l) h = ((preceded t).0 h.0, all_only l h.1)

all_so : (l : List (List ℕ)) → AllParameters l → AllIn (one (is 0x3b) then every is_space then parameter) l
all_so [] h = tt
all_so (t ∷ l) h = ((preceded t).1 h.0, all_so l h.1)

pub parameters_exactly : ParametersExactly
unfolding parameters
parameters_exactly s = (
  λ e. let h = (many_exactly _ s).0 e in (h.0, h.1, all_only h.0 h.2),
  λ h. (many_exactly _ s).1 (h.0, h.1, all_so h.0 h.2),
)

pub item_exactly : ItemExactly
unfolding sf_item
item_exactly s = then_exactly bare_item parameters s
