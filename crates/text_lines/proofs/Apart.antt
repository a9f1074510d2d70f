-- No two lines are alike: each is read back. Assumes nothing.
use Rattle.std.specs.Prelude.{Ok, Err}
use Rattle.capsule.specs.declared.reader.Ending.TheVariants.{Clean, Truncated}
use Rattle.walks.proofs.Words.{◌≡◌, refl, sym, ap, ◌∙◌, ℕ, ◌<◌, cond, List, [], ◌∷◌, ◌++◌, append_assoc, arith, lt-ltb, le-ltb, drop, get_or, ltb, eqb}
use Rattle.text_lines.proofs.Terms.{Delivered, Dropped, Skipped, Passed, AddressDelivered, Malformed, text, decimal, value, one_number, two_numbers, limit_line, report_line, end_line, AllDigits, Said, limit, report, end, line_of, LinesDiffer}
use Rattle.text_lines.proofs.Decimals.{read_back, digits_only}

-- the digits at the front, and what follows them and the byte behind them
unfoldable digits_of : List ℕ → List ℕ
digits_of [] = []
digits_of (c ∷ s) = cond (ltb c 48) [] (c ∷ digits_of s)

unfoldable behind : List ℕ → List ℕ
behind [] = []
behind (c ∷ s) = cond (ltb c 48) s (behind s)

digits-found : (last : ℕ) → last < 48 → (x r : List ℕ) → AllDigits x → (digits_of (x ++ (last ∷ r)) ≡ x) × (behind (x ++ (last ∷ r)) ≡ r)
unfolding digits_of behind
digits-found last h [] r d = rw (lt-ltb last 48 h) (refl, refl)
digits-found last h (c ∷ x) r d = rw (le-ltb c 48 d.0) (let e = digits-found last h x r d.2 in (ap (λ (s : List ℕ). c ∷ s) e.0, e.1))

abbrev number : List ℕ → ℕ
number s = value (digits_of s)

module _ (last : ℕ) (h : last < 48) (n : ℕ) (r : List ℕ) where
  number-found : number (decimal n ++ (last ∷ r)) ≡ n
  number-found = ap value (digits-found last h (decimal n) r (digits_only n)).0 ∙ read_back n

  rest-found : behind (decimal n ++ (last ∷ r)) ≡ r
  rest-found = (digits-found last h (decimal n) r (digits_only n)).1

-- a line's number, and its two numbers
one_found : (n : ℕ) → number (decimal n ++ (10 ∷ [])) ≡ n
one_found n = number-found 10 (omega arith) n []

module _ (m n : ℕ) where
  abbrev both : List ℕ
  both = (decimal m ++ (32 ∷ [])) ++ (decimal n ++ (10 ∷ []))

  regrouped : both ≡ decimal m ++ (32 ∷ (decimal n ++ (10 ∷ [])))
  regrouped = append_assoc (decimal m) (32 ∷ []) (decimal n ++ (10 ∷ []))

  two_found : (make : ℕ → ℕ → Said) → make (number both) (number (behind both)) ≡ make m n
  two_found make =
      let first : number both ≡ m = ap number regrouped ∙ number-found 32 (omega arith) m (decimal n ++ (10 ∷ [])) in
      let second : number (behind both) ≡ n = ap (λ (s : List ℕ). number (behind s)) regrouped ∙ ap number (rest-found 32 (omega arith) m (decimal n ++ (10 ∷ []))) ∙ one_found n in
      cc

-- ---- what a line says, by its first bytes

abbrev two_in : (ℕ → ℕ → Said) → List ℕ → Said
two_in make s = make (number s) (number (behind s))

abbrev end_in : List ℕ → Said
end_in s =
    cond (eqb (get_or s 4 0) 99) (end (Ok Clean))
    (cond (eqb (get_or s 4 0) 116) (end (Ok Truncated))
    (end (Err (record { 0 = number (drop 12 s) }))))

abbrev said_in : List ℕ → Said
said_in s =
    let c = get_or s 0 0 in
    cond (eqb c 108) (limit (number (drop 6 s)))
    (cond (eqb c 100) (cond (eqb (get_or s 1 0) 97) (report (Delivered (number (drop 9 s)))) (report (Dropped (number (drop 5 s)))))
    (cond (eqb c 115) (two_in (λ m n. report (Skipped m n)) (drop 5 s))
    (cond (eqb c 112) (two_in (λ m n. report (Passed m n)) (drop 5 s))
    (cond (eqb c 97) (two_in (λ m n. report (AddressDelivered m n)) (drop 8 s))
    (cond (eqb c 109) (two_in (λ m n. report (Malformed m n)) (drop 10 s))
    (end_in s))))))

line_read : (a : Said) → said_in (line_of a) ≡ a
unfolding text one_number two_numbers limit_line report_line end_line
line_read (limit n) = ap limit (one_found n)
line_read (report (Delivered n)) = ap (λ (k : ℕ). report (Delivered k)) (one_found n)
line_read (report (Dropped n)) = ap (λ (k : ℕ). report (Dropped k)) (one_found n)
line_read (report (Skipped t n)) = two_found t n (λ m n. report (Skipped m n))
line_read (report (Passed t n)) = two_found t n (λ m n. report (Passed m n))
line_read (report (AddressDelivered t n)) = two_found t n (λ m n. report (AddressDelivered m n))
line_read (report (Malformed t n)) = two_found t n (λ m n. report (Malformed m n))
line_read (end (Ok Clean)) = refl
line_read (end (Ok Truncated)) = refl
line_read (end (Err r)) = ap (λ (k : ℕ). end (Err (record { 0 = k }))) (one_found r.0)

pub lines_differ : LinesDiffer
lines_differ a b e = sym (line_read a) ∙ ap said_in e ∙ line_read b
