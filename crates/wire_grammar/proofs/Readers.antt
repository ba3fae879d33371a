-- When a reader reads what a relation spells, and nothing else: it finds the spelling at the front, or goes on, or is stuck at a byte.
use Rattle.std.proofs.Common.{◌≡◌, ℕ, ◌+◌, List, [], ◌∷◌, ◌++◌, length, Bool, true, false, ◌==◌, if◌then◌else◌, refl, sym, ap, subst, ◌∙◌, arith, append_assoc, length-append, append-nil, eq-eqb}
use Rattle.std.proofs.lemmas.Bool.Decides.{nat_tests}
use Rattle.wire_grammar.specs.declared.kind.WireKind.{WireKind}
use Rattle.wire_grammar.specs.Reads.{Reading, Front, Wrong, Next, byte_at}

-- why a byte is wrong after these
abbrev pub Why : Type 1
Why = List ℕ → ℕ → WireKind → Type 0

-- what a reader tells of a list, each with its witness
pub data Tells {A : Type 0} (P : Next A → ℕ → List ℕ → Reading) (R : A → List ℕ → Type 0) (W : Why) (b : List ℕ) : Type 0 where
  AtFront : (a : A) (front rest : List ℕ) → b ≡ front ++ rest → R a front → Tells P R W b
  Within : ((k : Next A) (p : ℕ) → P k p b ≡ Front) → (a : A) (more : List ℕ) → R a (b ++ more) → Tells P R W b
  AtByte : (front : List ℕ) (c : ℕ) (rest : List ℕ) (kind : WireKind) → b ≡ front ++ c ∷ rest
      → ((k : Next A) (p : ℕ) (more : List ℕ) → P k p (front ++ c ∷ more) ≡ Wrong kind (p + length front))
      → (a : A) (more : List ℕ) → R a (front ++ more) → W front c kind → Tells P R W b

-- the reader of a relation, in which something is spelled
pub record IsReader {A : Type 0} (P : Next A → ℕ → List ℕ → Reading) (R : A → List ℕ → Type 0) (W : Why) : Type 0 where
  pub whole : (a : A) (b rest : List ℕ) (p : ℕ) (k : Next A) → R a b → P k p (b ++ rest) ≡ k a (p + length b) rest
  pub tells : (b : List ℕ) → Tells P R W b
  pub some : (a : A) × (b : List ℕ) × R a b

pub place_cons : (p : ℕ) (b : List ℕ) (c : ℕ) → p + 1 + length b ≡ p + length (c ∷ b)
place_cons p b c = omega arith

pub place_append : (p : ℕ) (a b : List ℕ) → p + length a + length b ≡ p + length (a ++ b)
place_append p a b = omega (arith, length-append a b)

-- the same bytes, tells another way, with another reason
module _ {A : Type 0} (P : Next A → ℕ → List ℕ → Reading) (R S : A → List ℕ → Type 0) (V W : Why) (to : (a : A) (b : List ℕ) → R a b → S a b) (why : (b : List ℕ) (c : ℕ) (k : WireKind) → V b c k → W b c k) where
  restated_tells : (b : List ℕ) → Tells P R V b → Tells P S W b
  restated_tells b (AtFront a front rest e r) = AtFront a front rest e (to a front r)
  restated_tells b (Within f a more r) = Within f a more (to a _ r)
  restated_tells b (AtByte front c rest kind e f a more r w) = AtByte front c rest kind e f a more (to a _ r) (why front c kind w)

  pub restated_for : ((a : A) (b : List ℕ) → S a b → R a b) → IsReader P R V → IsReader P S W
  restated_for back g = record {
    whole = λ a b rest p k s. g.whole a b rest p k (back a b s);
    tells = λ b. restated_tells b (g.tells b);
    some = (g.some.0, g.some.1, to g.some.0 g.some.1 g.some.2);
  }

pub restated : {A : Type 0} {W : Why} (P : Next A → ℕ → List ℕ → Reading) (R S : A → List ℕ → Type 0) → ((a : A) (b : List ℕ) → R a b → S a b) → ((a : A) (b : List ℕ) → S a b → R a b) → IsReader P R W → IsReader P S W
restated {A} {W} P R S to back g = restated_for P R S W W to (λ b c k w. w) back g

-- a byte before what Q reads
module _ {A : Type 0} (P Q : Next A → ℕ → List ℕ → Reading) (R S : A → List ℕ → Type 0) (V W : Why) (c : ℕ)
    (is : (k : Next A) (p : ℕ) (cs : List ℕ) → P k p (c ∷ cs) ≡ Q k (p + 1) cs) (to : (a : A) (y : List ℕ) → S a y → R a (c ∷ y))
    (why : (b : List ℕ) (x : ℕ) (k : WireKind) → V b x k → W (c ∷ b) x k) where
  pub byte_tells : (cs : List ℕ) → Tells Q S V cs → Tells P R W (c ∷ cs)
  byte_tells cs (AtFront a front rest e s) = AtFront a (c ∷ front) rest (ap (λ l. c ∷ l) e) (to a front s)
  byte_tells cs (Within f a more s) = Within (λ k p. is k p cs ∙ f k (p + 1)) a more (to a _ s)
  byte_tells cs (AtByte front x rest kind e f a more s w) = AtByte (c ∷ front) x rest kind (ap (λ l. c ∷ l) e)
      (λ k p more. is k p (front ++ x ∷ more) ∙ f k (p + 1) more ∙ ap (Wrong kind) (place_cons p front c)) a more (to a _ s) (why front x kind w)

pub byte_whole : {A : Type 0} (P Q : Next A → ℕ → List ℕ → Reading) (c : ℕ) → ((k : Next A) (p : ℕ) (cs : List ℕ) → P k p (c ∷ cs) ≡ Q k (p + 1) cs)
    → (a : A) (y rest : List ℕ) (p : ℕ) (k : Next A) → Q k (p + 1) (y ++ rest) ≡ k a (p + 1 + length y) rest → P k p (c ∷ y ++ rest) ≡ k a (p + length (c ∷ y)) rest
byte_whole P Q c is a y rest p k e = is k p (y ++ rest) ∙ e ∙ ap (λ (i : ℕ). k a i rest) (place_cons p y c)

-- a byte with which nothing goes on
pub stuck_tells : {A : Type 0} (P : Next A → ℕ → List ℕ → Reading) (R : A → List ℕ → Type 0) (W : Why) (c : ℕ) (cs : List ℕ) (kind : WireKind)
    → ((k : Next A) (p : ℕ) (cs : List ℕ) → P k p (c ∷ cs) ≡ Wrong kind p) → (a : A) (b : List ℕ) → R a b → W [] c kind → Tells P R W (c ∷ cs)
stuck_tells P R W c cs kind f a b r w = AtByte [] c cs kind refl (λ k p more. f k p more ∙ ap (Wrong kind) (omega arith)) a b r w

-- no bytes
pub nothing : {A : Type 0} {W : Why} (a : A) → IsReader (λ k p cs. k a p cs) (λ x b. (b ≡ []) × (x ≡ a)) W
nothing {A} {W} a = record {
  whole = λ x b rest p k r. ap (λ (l : List ℕ). k a p (l ++ rest)) r.0 ∙ ap (λ (i : ℕ). k a i rest) (let e : p ≡ p + length b = rw r.0 (omega arith) in e) ∙ ap (λ (y : A). k y (p + length b) rest) (sym r.1);
  tells = λ b. AtFront a [] b refl (refl, refl);
  some = (a, [], (refl, refl));
}

abbrev pub AfterByte : {A : Type 0} → ℕ → (A → List ℕ → Type 0) → A → List ℕ → Type 0
AfterByte c S a b = (y : List ℕ) × (b ≡ c ∷ y) × S a y

-- a byte that must stand, and what follows
module _ {A : Type 0} (c : ℕ) (kind : WireKind) (Q : Next A → ℕ → List ℕ → Reading) (S : A → List ℕ → Type 0) (V W : Why) (g : IsReader Q S V)
    (here : (x : ℕ) → W [] x kind) (why : (b : List ℕ) (x : ℕ) (k : WireKind) → V b x k → W (c ∷ b) x k) where
  it_is : (k : Next A) (p : ℕ) (cs : List ℕ) → byte_at c kind (Q k) p (c ∷ cs) ≡ Q k (p + 1) cs
  it_is k p cs = ap (λ (t : Bool). if t then Q k (p + 1) cs else Wrong kind p) (eq-eqb c c refl)

  test_tells : (x : ℕ) (cs : List ℕ) (t : Bool) → (x == c) ≡ t → Tells (λ k. byte_at c kind (Q k)) (AfterByte c S) W (x ∷ cs)
  test_tells x cs true e =
      let same : c ≡ x = grind (arith, nat_tests) in
      subst (λ (z : ℕ). Tells (λ k. byte_at c kind (Q k)) (AfterByte c S) W (z ∷ cs)) same
      (byte_tells (λ k. byte_at c kind (Q k)) Q (AfterByte c S) S V W c it_is (λ a y s. (y, refl, s)) why cs (g.tells cs))
  test_tells x cs false e = stuck_tells (λ k. byte_at c kind (Q k)) (AfterByte c S) W x cs kind
      (λ k p cs. ap (λ (t : Bool). if t then Q k (p + 1) cs else Wrong kind p) e) g.some.0 (c ∷ g.some.1) (g.some.1, refl, g.some.2) (here x)

  list_tells : (b : List ℕ) → Tells (λ k. byte_at c kind (Q k)) (AfterByte c S) W b
  list_tells [] = Within (λ k p. refl) g.some.0 (c ∷ g.some.1) (g.some.1, refl, g.some.2)
  list_tells (x ∷ cs) = test_tells x cs (x == c) refl

  pub after_byte : IsReader (λ k. byte_at c kind (Q k)) (AfterByte c S) W
  after_byte = record {
    whole = λ a b rest p k r. subst (λ (l : List ℕ). byte_at c kind (Q k) p (l ++ rest) ≡ k a (p + length l) rest) (sym r.1)
        (byte_whole (λ k. byte_at c kind (Q k)) Q c it_is a r.0 rest p k (g.whole a r.0 rest (p + 1) k r.2));
    tells = list_tells;
    some = (g.some.0, c ∷ g.some.1, (g.some.1, refl, g.some.2));
  }

abbrev pub Both : {A C : Type 0} → (A → List ℕ → Type 0) → (A → C → List ℕ → Type 0) → C → List ℕ → Type 0
Both {A} R S c b = (a : A) × (x : List ℕ) × (y : List ℕ) × (b ≡ x ++ y) × R a x × S a c y

-- two readers in turn
module _ {A C : Type 0} (P : Next A → ℕ → List ℕ → Reading) (R : A → List ℕ → Type 0) (Q : A → Next C → ℕ → List ℕ → Reading) (S : A → C → List ℕ → Type 0)
    (V : Why) (U : A → Why) (W : Why) (g : IsReader P R V) (h : (a : A) → IsReader (Q a) (S a) (U a))
    (first : (b : List ℕ) (x : ℕ) (k : WireKind) → V b x k → W b x k)
    (second : (a : A) (front b : List ℕ) (x : ℕ) (k : WireKind) → R a front → U a b x k → W (front ++ b) x k) where
  second_tells : (a : A) (front rest : List ℕ) → R a front → Tells (Q a) (S a) (U a) rest → Tells (λ k. P (λ a. Q a k)) (Both R S) W (front ++ rest)
  second_tells a front rest r (AtFront c f2 r2 e s) = AtFront c (front ++ f2) r2 (ap (λ l. front ++ l) e ∙ sym (append_assoc front f2 r2)) (a, front, f2, refl, r, s)
  second_tells a front rest r (Within f c more s) =
      Within (λ k p. g.whole a front rest p (λ a. Q a k) r ∙ f k (p + length front)) c more (a, front, rest ++ more, append_assoc front rest more, r, s)
  second_tells a front rest r (AtByte f2 x r2 kind e f c more s w) =
      AtByte (front ++ f2) x r2 kind (ap (λ l. front ++ l) e ∙ sym (append_assoc front f2 (x ∷ r2)))
      (λ k p m. ap (λ l. P (λ a. Q a k) p l) (append_assoc front f2 (x ∷ m)) ∙ g.whole a front (f2 ++ x ∷ m) p (λ a. Q a k) r ∙ f k (p + length front) m ∙ ap (Wrong kind) (place_append p front f2))
      c more (a, front, f2 ++ more, append_assoc front f2 more, r, s) (second a front f2 x kind r w)

  first_tells : (b : List ℕ) → Tells P R V b → Tells (λ k. P (λ a. Q a k)) (Both R S) W b
  first_tells b (AtFront a front rest e r) = subst (λ (l : List ℕ). Tells (λ k. P (λ a. Q a k)) (Both R S) W l) (sym e) (second_tells a front rest r ((h a).tells rest))
  first_tells b (Within f a more r) =
      let s = (h a).some in
      Within (λ k p. f (λ a. Q a k) p) s.0 (more ++ s.1) (a, b ++ more, s.1, sym (append_assoc b more s.1), r, s.2)
  first_tells b (AtByte front c rest kind e f a more r w) =
      let s = (h a).some in
      AtByte front c rest kind e (λ k p m. f (λ a. Q a k) p m) s.0 (more ++ s.1) (a, front ++ more, s.1, sym (append_assoc front more s.1), r, s.2) (first front c kind w)

  pub in_turn : IsReader (λ k. P (λ a. Q a k)) (Both R S) W
  in_turn = record {
    whole = λ c b rest p k r.
        ap (λ l. P (λ a. Q a k) p (l ++ rest)) r.3 ∙ ap (λ l. P (λ a. Q a k) p l) (append_assoc r.1 r.2 rest)
        ∙ g.whole r.0 r.1 (r.2 ++ rest) p (λ a. Q a k) r.4 ∙ (h r.0).whole c r.2 rest (p + length r.1) k r.5
        ∙ ap (λ (i : ℕ). k c i rest) (place_append p r.1 r.2 ∙ ap (λ (l : List ℕ). p + length l) (sym r.3));
    tells = λ b. first_tells b (g.tells b);
    some = let s = (h g.some.0).some in (s.0, g.some.1 ++ s.1, (g.some.0, g.some.1, s.1, refl, g.some.2, s.2));
  }

-- never wrong
abbrev pub Never : Why
Never b x k = ⊥

-- the reason, where nothing is spelled at the front of what stands before the byte
abbrev pub Unspelled : {A : Type 0} → (A → List ℕ → Type 0) → Why → Why
Unspelled {A} R W b x k = W b x k × ((a : A) (u y : List ℕ) → b ≡ u ++ y → R a u → ⊥)

front_wrong : (kind : WireKind) (p : ℕ) → Front ≡ Wrong kind p → ⊥
front_wrong kind p e = cc

-- a reader that is stuck has read nothing before
module _ {A : Type 0} (P : Next A → ℕ → List ℕ → Reading) (R : A → List ℕ → Type 0) (W : Why) (g : IsReader P R W) where
  abbrev at_once : Next A
  at_once a p cs = Front

  unspelled_tells : (b : List ℕ) → Tells P R W b → Tells P R (Unspelled R W) b
  unspelled_tells b (AtFront a front rest e r) = AtFront a front rest e r
  unspelled_tells b (Within f a more r) = Within f a more r
  unspelled_tells b (AtByte front c rest kind e f a more r w) = AtByte front c rest kind e f a more r (
    w,
    λ v u y s t. front_wrong kind (0 + length front)
        (sym (g.whole v u (y ++ c ∷ []) 0 at_once t) ∙ ap (P at_once 0) (sym (ap (λ l. l ++ c ∷ []) s ∙ append_assoc u y (c ∷ []))) ∙ f at_once 0 []),
  )

  pub unspelled : IsReader P R (Unspelled R W)
  unspelled = record {
    whole = λ a b rest p k r. g.whole a b rest p k r;
    tells = λ b. unspelled_tells b (g.tells b);
    some = g.some;
  }

-- what is done with what was read
pub mapped : {A C : Type 0} {W : Why} (P : Next A → ℕ → List ℕ → Reading) (R : A → List ℕ → Type 0) (f : A → C) → IsReader P R W
    → IsReader (λ k. P (λ a. k (f a))) (λ c b. (a : A) × (c ≡ f a) × R a b) W
mapped {A} {C} {W} P R f g = restated (λ k. P (λ a. k (f a))) (Both R (λ a c y. (y ≡ []) × (c ≡ f a))) (λ c b. (a : A) × (c ≡ f a) × R a b)
    (λ c b r. (r.0, r.5.1, subst (λ (l : List ℕ). R r.0 l) (sym (r.3 ∙ ap (λ l. r.1 ++ l) r.5.0 ∙ append-nil r.1)) r.4))
    (λ c b r. (r.0, b, [], sym (append-nil b), r.2, (refl, r.1)))
    (in_turn P R (λ a k p cs. k (f a) p cs) (λ a c y. (y ≡ []) × (c ≡ f a)) W (λ a. Never) W g (λ a. nothing (f a)) (λ b x k w. w) (λ a front b x k r w. absurd w))
