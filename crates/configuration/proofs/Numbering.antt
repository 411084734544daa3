-- Each profile has one word and each form one number, and each of these is its own.
use Rattle.std.proofs.Common.{◌≡◌, ℕ, Some, refl}
use Rattle.choices.proofs.Numbering.{one_of, no_choice}
use Rattle.configuration.specs.Forms.{form_of, form_number}
use Rattle.configuration.specs.declared.form.Form.{Form}
use Rattle.configuration.specs.declared.form.Form.TheVariants.{Long, Short}
use Rattle.configuration.specs.Profiles.{profile_of, profile_word}
use Rattle.configuration.specs.declared.profile.Profile.{Profile}
use Rattle.configuration.specs.declared.profile.Profile.TheVariants.{Rgb3, Rgba, Abgr}

pub profile_word_lem : (n : ℕ) (x : Profile) → profile_of n ≡ Some x → profile_word x ≡ n
profile_word_lem n x =
    let N = profile_word in
    one_of N n 0x7267_6233 Rgb3 x _ refl (one_of N n 0x7267_6261 Rgba x _ refl (one_of N n 0x6162_6772 Abgr x _ refl (no_choice N n x)))

pub word_profile : (x : Profile) → profile_of (profile_word x) ≡ Some x
word_profile Rgb3 = refl
word_profile Rgba = refl
word_profile Abgr = refl

pub form_number_lem : (n : ℕ) (x : Form) → form_of n ≡ Some x → form_number x ≡ n
form_number_lem n x =
    let N = form_number in
    one_of N n 0 Long x _ refl (one_of N n 1 Short x _ refl (no_choice N n x))

pub number_form : (x : Form) → form_of (form_number x) ≡ Some x
number_form Long = refl
number_form Short = refl
