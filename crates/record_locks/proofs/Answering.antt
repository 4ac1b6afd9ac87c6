-- What holds after a call that succeeded, from how it ended.
use Rattle.std.proofs.Common.{◌≡◌, sym, subst, Result, Ok, Err, OnOk, OnErr}

-- what is so holds on success
pub on_ok : {A E : Type 0} (P : Type 0) (r : Result A E) → P → OnOk r P
on_ok P (Ok a) p = p
on_ok P (Err e) p = tt

pub on_err : {A E : Type 0} (P : Type 0) (r : Result A E) → P → OnErr r P
on_err P (Ok a) p = tt
on_err P (Err e) p = p

-- of a failure nothing is said on success
pub failed : {A E : Type 0} (P : Type 0) (r : Result A E) (e : E) → r ≡ Err e → OnOk r P
failed P r e is = subst (λ x. OnOk x P) (sym is) tt

-- of a success nothing is said on failure
pub passed : {A E : Type 0} (P : Type 0) (r : Result A E) (a : A) → r ≡ Ok a → OnErr r P
passed P r a is = subst (λ x. OnErr x P) (sym is) tt

-- what follows from one promise on success is another
pub on_ok-more : {A E : Type 0} (P Q : Type 0) (r : Result A E) → (P → Q) → OnOk r P → OnOk r Q
on_ok-more P Q (Ok a) f p = f p
on_ok-more P Q (Err e) f p = tt

pub on_err-more : {A E : Type 0} (P Q : Type 0) (r : Result A E) → (P → Q) → OnErr r P → OnErr r Q
on_err-more P Q (Ok a) f p = tt
on_err-more P Q (Err e) f p = f p
