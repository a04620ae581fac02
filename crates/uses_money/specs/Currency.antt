-- The codes of currencies, and how many decimals they have, from ISO 4217.
use Rattle.std.specs.Prelude.{ℕ, List, codes}
use Rattle.uses_money.specs.declared.currency.Currency.{Currency}
use Rattle.uses_money.specs.declared.currency.Currency.TheVariants.{Usd, Eur, Jpy, Gbp, Cny, Aud, Cad, Chf, Hkd, Sgd, Sek, Krw, Nok, Nzd}
use Rattle.uses_money.specs.declared.currency.Currency.TheVariants.{Inr, Mxn, Twd, Zar, Brl, Dkk}

-- the code of three letters
abbrev pub code_of : Currency → List ℕ
code_of Usd = codes "USD"
code_of Eur = codes "EUR"
code_of Jpy = codes "JPY"
code_of Gbp = codes "GBP"
code_of Cny = codes "CNY"
code_of Aud = codes "AUD"
code_of Cad = codes "CAD"
code_of Chf = codes "CHF"
code_of Hkd = codes "HKD"
code_of Sgd = codes "SGD"
code_of Sek = codes "SEK"
code_of Krw = codes "KRW"
code_of Nok = codes "NOK"
code_of Nzd = codes "NZD"
code_of Inr = codes "INR"
code_of Mxn = codes "MXN"
code_of Twd = codes "TWD"
code_of Zar = codes "ZAR"
code_of Brl = codes "BRL"
code_of Dkk = codes "DKK"

-- how many decimals an amount has: none in yen and won, which have no minor unit in use, and else two
abbrev pub decimals_of : Currency → ℕ
decimals_of Jpy = 0
decimals_of Krw = 0
decimals_of _ = 2
