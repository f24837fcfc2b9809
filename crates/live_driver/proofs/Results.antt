-- What holds of a result holds of it by another reading.
use Rattle.std.specs.Prelude.{Result, Ok, Err, IfOk, OnOk}

pub if_two : {A E : Type 0} (P Q T : A → Type 0) (r : Result A E) → ((x : A) → P x → Q x → T x) → IfOk r P → IfOk r Q → IfOk r T
if_two P Q T (Ok x) f g h = f x g h
if_two P Q T (Err e) f g h = g

pub if_ok : {A E : Type 0} (P Q : A → Type 0) (r : Result A E) → ((x : A) → P x → Q x) → IfOk r P → IfOk r Q
if_ok P Q (Ok x) f h = f x h
if_ok P Q (Err e) f h = h

pub on_ok : {A E : Type 0} (P Q : Type 0) (r : Result A E) → (P → Q) → OnOk r P → OnOk r Q
on_ok P Q (Ok x) f h = f h
on_ok P Q (Err e) f h = h

pub on_any : {A E : Type 0} (P : Type 0) (r : Result A E) → P → OnOk r P
on_any P (Ok x) h = h
on_any P (Err e) h = tt
