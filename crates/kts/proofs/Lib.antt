mod Sendings
