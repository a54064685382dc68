mod HeldDigits
